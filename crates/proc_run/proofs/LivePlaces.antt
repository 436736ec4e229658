-- Places of threads, by who lives there.
use Rattle.std.proofs.Common.{◌≡◌, ℕ, zero, suc, ◌<◌, true, List, [], ◌∷◌, Option, Some, None, length, refl, arith}
use Rattle.std.specs.Prelude.{is_some}
use Rattle.run_model.specs.declared.thread.Thread.{Thread}
use Rattle.run_model.specs.State.{thread_at}

pub within : (xs : List (Option Thread)) (t : ℕ) (thread : Thread) → thread_at xs t ≡ Some thread → t < length xs
within [] t thread at = absurd cc
within (z ∷ xs) zero thread at = omega arith
within (z ∷ xs) (suc t) thread at = omega (arith, within xs t thread at)

pub one_lives : (o : Option Thread) → is_some o ≡ true → (thread : Thread) × (o ≡ Some thread)
one_lives None h = absurd cc
one_lives (Some thread) h = (thread, refl)
