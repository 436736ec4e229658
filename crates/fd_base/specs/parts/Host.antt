-- What the reads of a whole file answer.
use Rattle.std.specs.Prelude.{◌≡◌, ℕ, ◌<◌, ◌≤◌, List, length, Option, Result, Ok, Err, IfSome}
use Rattle.fd_base.specs.declared.store.FetchErr.{FetchErr}
use Rattle.fd_base.specs.declared.store.FetchErr.TheVariants.{Failed, TooLong, Memory}
use Rattle.fd_base.specs.declared.store.TheConstants.{MAX_FILE}
use Rattle.fd_base.specs.Faults.{Rose}

-- the answer for a reader that has these bytes left, where that is known, with the counts of faults before and
-- after it
abbrev pub ReadAnswers : Option (List ℕ) → ℕ → ℕ → Result (List ℕ) FetchErr → Type 0
ReadAnswers left old new (Ok bytes) = (length bytes ≤ MAX_FILE) × IfSome left (λ all. bytes ≡ all)
ReadAnswers left old new (Err Failed) = Rose old new
ReadAnswers left old new (Err (TooLong taken)) = (MAX_FILE < taken) × IfSome left (λ all. MAX_FILE < length all)
ReadAnswers left old new (Err Memory) = Unit {0}
