use Rattle.std.proofs.Common.{◌≡◌, map}
use Rattle.std.specs.List.{range_with_len}
use Rattle.load_state.specs.Accepted.{gots_of}
use Rattle.load_plan.proofs.filling.gots.Given as goal

abbrev pub invariant-loop-m : goal.invariant-loop-m
invariant-loop-m l = l.gots.items ≡ map (gots_of l.process l.joining) (range_with_len 0 l.m)
