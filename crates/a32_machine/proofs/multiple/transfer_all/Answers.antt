use Rattle.std.proofs.Common.{rules, arith}
use Rattle.a32_machine.proofs.Listed.{take_below}
use Rattle.a32_machine.proofs.multiple.transfer_all.Goals as goal

pub gather-requires-clause-registers : goal.gather-requires-clause-registers
gather-requires-clause-registers c = λ k. take_below c.args.registers.now.places c.args.registers.now.count 16 k (omega arith) (search rules)
