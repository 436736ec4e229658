-- A file that the words name.
use Rattle.std.specs.Prelude.{◌≡◌, ℕ, ◌≤◌, List, length, Option, Some, None, Result, Ok, Err, IfSome, MatchBool, nat_lt, option_map}
use Rattle.std.specs.FinMap.{get}
use Rattle.fd_base.specs.declared.store.TheConstants.{MAX_FILE}
use Rattle.fd_base.specs.Fetched.{Files, ChangesOnly, with_file}
use Rattle.fd_base.specs.Faults.{Rose}
use Rattle.fdpic_cmd.specs.declared.status.Failure.{Failure}
use Rattle.fdpic_cmd.specs.declared.status.Failure.TheVariants.{Refused, StoreFault, Memory}
use Rattle.fdpic_cmd.specs.declared.status.Refusal.TheVariants.{NoFile, TooLong}
use Rattle.fdpic_cmd.specs.Outcome.{Outcome, refuses}

abbrev pub OnFound : List ℕ → (List ℕ → Outcome → Type 0) → Option (List ℕ) → Outcome → Type 0
OnFound name means None o = o ≡ refuses (NoFile name)
OnFound name means (Some bytes) o = MatchBool (nat_lt MAX_FILE (length bytes)) (o ≡ refuses (TooLong name)) (means bytes o)

-- The outcome of what is done with a file's bytes, or the refusal of the file: it is too long, or not there.
abbrev pub OnFile : Files → List ℕ → (List ℕ → Outcome → Type 0) → Outcome → Type 0
OnFile told name means o = OnFound name means (get told name) o

-- the file is there, and not too long
pub record IsFile (told : Files) (name bytes : List ℕ) : Type 0 where
  pub found : get told name ≡ Some bytes
  pub short : length bytes ≤ MAX_FILE

-- nothing is done with the bytes
abbrev pub Never : List ℕ → Outcome → Type 0
Never bytes o = ⊥

-- what fetching the file answers
abbrev pub Fetched : Option Files → List ℕ → ℕ → ℕ → Result (List ℕ) Failure → Type 0
Fetched files name old new (Ok bytes) = IfSome files (λ told. IsFile told name bytes)
Fetched files name old new (Err (Refused r)) = IfSome files (λ told. OnFile told name Never (refuses r))
Fetched files name old new (Err StoreFault) = Rose old new
Fetched files name old new (Err Memory) = Unit {0}

-- what putting these bytes as a file answers
abbrev pub PutsBytes : Option Files → Option Files → List ℕ → List ℕ → ℕ → ℕ → Result (Unit {0}) Failure → Type 0
PutsBytes files later name bytes old new (Ok done) = later ≡ option_map (with_file name bytes) files
PutsBytes files later name bytes old new (Err (Refused r)) = ⊥
PutsBytes files later name bytes old new (Err StoreFault) = Rose old new × ChangesOnly name files later
PutsBytes files later name bytes old new (Err Memory) = later ≡ files
