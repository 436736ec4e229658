-- What a function answers that makes some tests of a link. Want of memory is free.
use Rattle.std.specs.Prelude.{◌≡◌, Bool, true, false, List, Some, None, Result, Ok, Err}
use Rattle.elf_model.specs.Test.{first_failing}
use Rattle.link_model.specs.declared.error.LinkErr.{LinkErr}
use Rattle.link_model.specs.declared.error.LinkErr.TheVariants.{Refused, Memory}
use Rattle.link_model.specs.declared.error.LinkRefusal.{LinkRefusal}
use Rattle.link_model.specs.Targets.{LinkTest}

-- the error is the first failing test
abbrev pub IsRefusal : LinkErr → List LinkTest → Type 0
IsRefusal (Refused r) tests = first_failing tests ≡ Some r
IsRefusal Memory tests = Unit {0}

-- each test holds, or the error is the first that fails
abbrev pub Passes : Result (Unit {0}) LinkErr → List LinkTest → Type 0
Passes (Ok u) tests = first_failing tests ≡ None
Passes (Err e) tests = IsRefusal e tests

-- one test, which fails where b is true
abbrev pub Refuses : Result (Unit {0}) LinkErr → Bool → LinkRefusal → Type 0
Refuses (Ok u) b refusal = b ≡ false
Refuses (Err e) b refusal = (b ≡ true) × (e ≡ Refused refusal)

-- each test holds and P of what is given, or the error is the first test that fails
abbrev pub Gives : {X : Type 0} → Result X LinkErr → List LinkTest → (X → Type 0) → Type 0
Gives (Ok x) tests P = (first_failing tests ≡ None) × P x
Gives (Err e) tests P = IsRefusal e tests
