use Rattle.std.proofs.Common.{arith}
use Rattle.link_got.proofs.Bounds.{slot-near}
use Rattle.link_got.proofs.got.slot.Goals as goal

pub overflow_cast-result : goal.overflow_cast-result
overflow_cast-result c =
    let l = c.args.layout.now in
    omega (arith, c.plt_entry_of.ensures.place, slot-near l.mode l.text.inputs.now c.args.key c.requires.small)

pub overflow_add-result : goal.overflow_add-result
overflow_add-result c =
    let l = c.args.layout.now in
    omega (arith, c.plt_entry_of.ensures.place, slot-near l.mode l.text.inputs.now c.args.key c.requires.small)
