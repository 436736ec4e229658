use Rattle.std.proofs.Common.{ap, sym, ◌∙◌, arith}
use Rattle.link_model.specs.Places.{need_place}
use Rattle.link_model.specs.Segments.{descriptor_word}
use Rattle.link_names.specs.parts.Joining.{Joining}
use Rattle.link_got.proofs.Bounds.{need-near}
use Rattle.link_got.proofs.got.func_word.Goals as goal

pub overflow_cast-need_place : goal.overflow_cast-need_place
overflow_cast-need_place c =
    let l = c.args.layout.now in
    omega (arith, c.need_place.ensures.place, need-near l.mode l.text.inputs.now c.descriptor_need-need.result c.requires.small)

pub returns : goal.returns
returns c =
    let l = c.args.layout.now in
    let target = c.target_of_key-target.result in
    c.descriptor_word.ensures l.mode l.text.inputs.now (λ settled. c.need_place.ensures.place ∙ ap (need_place l.mode l.text.inputs.now) c.descriptor_need-need.ensures)
    ∙ sym (ap (λ (j : Joining). descriptor_word j.mode j.inputs target) c.requires.one)
    ∙ ap (descriptor_word c.args.joined.now.mode c.args.joined.now.inputs) c.target_of_key-target.ensures
