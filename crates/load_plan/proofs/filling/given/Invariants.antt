use Rattle.std.proofs.Common.{◌≡◌, take}
use Rattle.std.specs.List.{zip}
use Rattle.func_desc.specs.Pool.{free_slots}
use Rattle.load_plan.proofs.filling.given.Given as goal

abbrev pub invariant-loop-i : goal.invariant-loop-i
invariant-loop-i l = l.given ≡ zip (take l.i l.wanted) (free_slots l.pool)
