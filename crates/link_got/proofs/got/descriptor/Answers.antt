use Rattle.std.proofs.Common.{arith}
use Rattle.link_got.proofs.Bounds.{data-near}
use Rattle.link_got.proofs.got.descriptor.Goals as goal

pub overflow_cast-got : goal.overflow_cast-got
overflow_cast-got c =
    let l = c.args.layout.now in
    omega (arith, c.data_place.ensures.place, data-near l.mode l.text.inputs.now c.requires.small)
