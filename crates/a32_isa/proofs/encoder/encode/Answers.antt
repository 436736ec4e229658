use Rattle.std.proofs.Common.{arith}
use Rattle.a32_isa.proofs.Widths.{number_of-row}
use Rattle.a32_isa.proofs.encoder.encode.Goals as goal

pub overflow_add-result : goal.overflow_add-result
overflow_add-result c = omega (arith, number_of-row c.args.i.now.op c.requires.fit.1)
