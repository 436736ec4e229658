-- Tests, as a list in their order: those of any format or command, each with its refusal.
use Rattle.std.specs.Prelude.{ℕ, zero, suc, Bool, List, [], ◌∷◌, ◌++◌, Option, Some, None, if◌then◌else◌}
use Rattle.elf_model.specs.declared.refusal.ElfKind.{ElfKind}
use Rattle.elf_model.specs.declared.refusal.ElfRefusal.{ElfRefusal}

-- a test: whether it fails, and the refusal where it does
pub record Test (Refusal : Type 0) : Type 0 where
  pub fails : Bool
  pub refusal : Refusal

-- the test with this refusal
abbrev pub fails_with : {Refusal : Type 0} → Refusal → Bool → Test Refusal
fails_with refusal fails = record { fails = fails; refusal = refusal }

-- The refusal of the first test that fails. None where each test holds.
abbrev pub first_failing : {Refusal : Type 0} → List (Test Refusal) → Option Refusal
first_failing [] = None
first_failing (t ∷ ts) = if t.fails then Some t.refusal else first_failing ts

-- tests that are made only where b is true
abbrev pub only_where : {Refusal : Type 0} → Bool → List (Test Refusal) → List (Test Refusal)
only_where b tests = if b then tests else []

-- tests that are made only of a value that is there
abbrev pub of_some : {Refusal X : Type 0} → Option X → (X → List (Test Refusal)) → List (Test Refusal)
of_some None tests = []
of_some (Some x) tests = tests x

-- the tests of place 0, then those of place 1, and so on below n
unfoldable pub each_below : {Refusal : Type 0} → ℕ → (ℕ → List (Test Refusal)) → List (Test Refusal)
each_below zero tests = []
each_below (suc n) tests = each_below n tests ++ tests n

-- the tests of each item in order, with the place of the item, counted from k
unfoldable pub each_from : {Refusal X : Type 0} → ℕ → (ℕ → X → List (Test Refusal)) → List X → List (Test Refusal)
each_from k tests [] = []
each_from k tests (x ∷ xs) = tests k x ++ each_from (suc k) tests xs

-- ---- those of ELF files

abbrev pub ElfTest : Type 0
ElfTest = Test ElfRefusal

-- the test of this kind at this offset of the file
abbrev pub refuses : ElfKind → ℕ → Bool → ElfTest
refuses kind offset fails = fails_with {Refusal = ElfRefusal} (record { kind = kind; at = offset }) fails
