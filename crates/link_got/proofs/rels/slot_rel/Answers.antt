use Rattle.std.proofs.Common.{arith}
use Rattle.link_model.specs.declared.need.Need.TheVariants.{Slot}
use Rattle.link_got.proofs.Bounds.{need-near}
use Rattle.link_got.proofs.rels.slot_rel.Goals as goal

pub overflow_cast-result : goal.overflow_cast-result
overflow_cast-result c =
    let l = c.args.layout.now in
    omega (arith, c.need_place.ensures.place, need-near l.mode l.text.inputs.now (Slot c.args.key) c.requires.small)
