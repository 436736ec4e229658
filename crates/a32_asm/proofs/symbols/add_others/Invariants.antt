use Rattle.std.proofs.Common.{◌≡◌, ◌++◌, ◌||◌}
use Rattle.std.specs.Prelude.{is_some, is_none, filter}
use Rattle.std.specs.List.{range_with_len}
use Rattle.a32_asm.specs.Object.{facts_at}
use Rattle.a32_asm.proofs.symbols.add_others.Given as goal

abbrev pub invariant-loop-place : goal.invariant-loop-place
invariant-loop-place l = l.places.items ≡ l.initial.places.items ++ filter (λ k. is_some (facts_at l.all k).weak || is_none (facts_at l.all k).label) (range_with_len 0 l.place)
