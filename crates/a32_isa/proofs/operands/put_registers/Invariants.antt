use Rattle.std.proofs.Common.{◌≡◌, ◌++◌, map, take}
use Rattle.a32_isa.specs.Names.{register_name}
use Rattle.a32_isa.specs.Text.{parted}
use Rattle.a32_isa.proofs.operands.put_registers.Given as goal

abbrev pub invariant-loop-k : goal.invariant-loop-k
invariant-loop-k l = l.out ≡ l.fn.out ++ parted (map register_name (take l.k l.registers))
