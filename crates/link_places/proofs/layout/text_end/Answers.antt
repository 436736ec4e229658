use Rattle.std.proofs.Common.{◌+◌, ◌*◌, ◌∙◌}
use Rattle.link_places.specs.parts.NeedTable.{needs_of}
use Rattle.link_places.proofs.Ends.{end-without, end-with, slots-are}
use Rattle.link_places.proofs.layout.text_end.Goals as goal

pub returns-then-slots-eq0-clause-end : goal.returns-then-slots-eq0-clause-end
returns-then-slots-eq0-clause-end c =
    let inputs = c.args.text.now.inputs.now in
    let count = c.slot_count-slots.ensures.count ∙ slots-are c.args.mode inputs (needs_of c.args.needs.now) c.requires in
    c.end.ensures.end ∙ end-without c.args.mode inputs c.slot_count-slots.result count c.if-slots-eq0.true

pub returns-else-slots-eq0-clause-end : goal.returns-else-slots-eq0-clause-end
returns-else-slots-eq0-clause-end c =
    let inputs = c.args.text.now.inputs.now in
    let count = c.slot_count-slots.ensures.count ∙ slots-are c.args.mode inputs (needs_of c.args.needs.now) c.requires in
    (λ i. c.plt_place.ensures.place i + c.from.ensures i * c.from-else-slots-eq0.ensures i) ∙ end-with c.args.mode inputs c.slot_count-slots.result count c.if-slots-eq0.false
