use Rattle.std.proofs.Common.{◌≡◌, drop}
use Rattle.a32_machine.specs.Multiple.{with_regs}
use Rattle.a32_machine.proofs.multiple.spread.Given as goal

-- what is left gives the answer
abbrev pub invariant-loop-i : goal.invariant-loop-i
invariant-loop-i l = record l.cpu { r = with_regs l.cpu.r (drop l.i l.registers) (drop l.i l.values) } ≡ record l.fn.cpu { r = with_regs l.fn.cpu.r l.registers l.values }
