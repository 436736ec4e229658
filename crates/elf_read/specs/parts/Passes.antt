-- What a function answers that makes some tests of the format. Want of memory is free.
use Rattle.std.specs.Prelude.{◌≡◌, ℕ, Bool, true, false, List, Some, None, Result, Ok, Err}
use Rattle.elf_model.specs.declared.refusal.ElfKind.{ElfKind}
use Rattle.elf_model.specs.Test.{ElfTest, first_failing}
use Rattle.elf_read.specs.declared.error.ReadErr.{ReadErr}
use Rattle.elf_read.specs.declared.error.ReadErr.TheVariants.{Refused, Memory}

-- the error is the first failing test
abbrev pub IsRefusal : ReadErr → List ElfTest → Type 0
IsRefusal (Refused r) tests = first_failing tests ≡ Some r
IsRefusal Memory tests = Unit {0}

-- each test holds, or the error is the first that fails
abbrev pub Passes : Result (Unit {0}) ReadErr → List ElfTest → Type 0
Passes (Ok u) tests = first_failing tests ≡ None
Passes (Err e) tests = IsRefusal e tests

-- each test holds and x, as view shows it, is the value; or the error is the first test that fails
abbrev pub Reads : {X Y : Type 0} → (X → Y) → Result X ReadErr → List ElfTest → Y → Type 0
Reads view (Ok x) tests value = (first_failing tests ≡ None) × (view x ≡ value)
Reads view (Err e) tests value = IsRefusal e tests

-- one test, which fails where b is true
abbrev pub Refuses : Result (Unit {0}) ReadErr → Bool → ElfKind → ℕ → Type 0
Refuses (Ok u) b kind offset = b ≡ false
Refuses (Err e) b kind offset = (b ≡ true) × (e ≡ Refused (record { kind = kind; at = offset }))

-- each test holds and P of what is given, or the error is the first test that fails
abbrev pub Gives : {X : Type 0} → Result X ReadErr → List ElfTest → (X → Type 0) → Type 0
Gives (Ok x) tests P = (first_failing tests ≡ None) × P x
Gives (Err e) tests P = IsRefusal e tests
