use Rattle.std.proofs.Common.{◌≡◌, ◌&&◌, map}
use Rattle.std.specs.List.{range_with_len}
use Rattle.load_model.specs.Unbound.{may_wait}
use Rattle.load_model.proofs.unbound.unbound_at_first.Given as goal

-- the flags so far
abbrev pub invariant-loop-k : goal.invariant-loop-k
invariant-loop-k l = l.flags ≡ map (λ n. l.lazy && may_wait l.o n) (range_with_len 0 l.k)
