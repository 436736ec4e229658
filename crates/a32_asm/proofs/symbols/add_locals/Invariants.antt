use Rattle.std.proofs.Common.{◌≡◌, ◌++◌, false, get_or, take}
use Rattle.std.specs.Prelude.{◌&&◌, is_none, filter}
use Rattle.a32_asm.specs.Object.{facts_at}
use Rattle.a32_asm.proofs.symbols.add_locals.Given as goal

abbrev pub invariant-loop-place : goal.invariant-loop-place
invariant-loop-place l = l.places.items ≡ l.initial.places.items ++ filter (λ k. is_none (facts_at l.all k).weak && get_or l.named k false) (take l.place-index l.all.labels)
