use Rattle.std.proofs.Common.{◌∙◌}
use Rattle.link_places.specs.parts.NeedTable.{needs_of}
use Rattle.link_places.proofs.Ends.{slots-are}
use Rattle.link_object.proofs.Greatest.{filled_text_end}
use Rattle.link_object.proofs.segments.text_filled_end.Goals as goal

pub returns-then-slot_count-eq0 : goal.returns-then-slot_count-eq0
returns-then-slot_count-eq0 c =
    let l = c.args.layout.now in
    let count = c.slot_count.ensures.count ∙ slots-are l.mode l.text.inputs.now (needs_of l.needs) l.wanted in
    c.filled_sections_end.ensures ∙ filled_text_end l.mode l.text.inputs.now c.slot_count.result count c.if-slot_count-eq0.true
