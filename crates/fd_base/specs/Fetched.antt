-- Files by name, and what a fetch and a put of one answer.
use Rattle.std.specs.Prelude.{◌≡◌, ◌≢◌, ℕ, ◌<◌, ◌≤◌, List, length, Option, Result, Some, None, Ok, Err, IfSome, IsSomeAnd, option_map}
use Rattle.std.specs.Ordering.{nat_cmp}
use Rattle.std.specs.Cmp.Lexicographic.{slice_cmp}
use Rattle.std.specs.FinMap.{FinMap, get, insert}
use Rattle.fd_base.specs.declared.store.FetchErr.{FetchErr}
use Rattle.fd_base.specs.declared.store.FetchErr.TheVariants.{Failed, TooLong, Memory}
use Rattle.fd_base.specs.declared.store.PutErr.{PutErr}
use Rattle.fd_base.specs.declared.store.PutErr.TheVariants.{Failed as PutFailed, Memory as PutMemory}
use Rattle.fd_base.specs.declared.store.TheConstants.{MAX_FILE}
use Rattle.fd_base.specs.Faults.{Rose}

-- the bytes of each file, by its name
abbrev pub Files : Type 0
Files = FinMap (slice_cmp nat_cmp) (List ℕ)

-- The answer of a fetch of this name, with the counts of faults before and after it. The files may not be
-- told: then nothing is said of them.
abbrev pub FetchAnswers : Option Files → List ℕ → ℕ → ℕ → Result (Option (List ℕ)) FetchErr → Type 0
FetchAnswers files name old new (Ok (Some bytes)) = (length bytes ≤ MAX_FILE) × IfSome files (λ told. get told name ≡ Some bytes)
FetchAnswers files name old new (Ok None) = IfSome files (λ told. get told name ≡ None)
FetchAnswers files name old new (Err Failed) = Rose old new
FetchAnswers files name old new (Err (TooLong taken)) =
    (MAX_FILE < taken) × IfSome files (λ told. IsSomeAnd (get told name) (λ bytes. MAX_FILE < length bytes))
FetchAnswers files name old new (Err Memory) = Unit {0}

-- the files with this one put in
abbrev pub with_file : List ℕ → List ℕ → Files → Files
with_file name bytes told = insert told name bytes

-- no file but this one has changed, where they are told
abbrev pub ChangesOnly : List ℕ → Option Files → Option Files → Type 0
ChangesOnly name None later = later ≡ None
ChangesOnly name (Some told) later = IsSomeAnd later (λ new. (other : List ℕ) → other ≢ name → get new other ≡ get told other)

-- the answer of a put of these bytes under this name, with the files and the counts of faults before and after it
abbrev pub StoreAnswers : Option Files → Option Files → List ℕ → List ℕ → ℕ → ℕ → Result (Unit {0}) PutErr → Type 0
StoreAnswers files later name bytes old new (Ok u) = later ≡ option_map (with_file name bytes) files
StoreAnswers files later name bytes old new (Err PutFailed) = Rose old new × ChangesOnly name files later
StoreAnswers files later name bytes old new (Err PutMemory) = later ≡ files
