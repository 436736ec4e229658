use Rattle.std.proofs.Common.{◌≡◌, take, map}
use Rattle.a32_machine.specs.Registers.{reg}
use Rattle.a32_machine.proofs.multiple.gather.Given as goal

-- the values so far
abbrev pub invariant-loop-i : goal.invariant-loop-i
invariant-loop-i l = take l.i l.values ≡ map (reg l.cpu) (take l.i l.registers)
