-- What holds of closures and of exported names.
use Rattle.std.specs.Prelude.{◌≡◌, ◌≢◌, ℕ, Bool, nat_eq, List, Contains, AllPairs}
use Rattle.std.specs.Str.{bytes_eq}
use Rattle.std.specs.FinMap.{get}
use Rattle.elf_model.specs.declared.object.Symbol.{Symbol}
use Rattle.symbol_scope.specs.Closure.{IsReached, IsClosure}
use Rattle.symbol_scope.specs.Exported.{first_export}
use Rattle.symbol_scope.specs.Exports.{exports_of}

-- Roots have one closure, it has what is reached, and each member once.
pub record ClosuresOf (X : Type 0) (same : X → X → Bool) : Type 0 where
  pub one : (needs : X → List X) (roots xs ys : List X) → IsClosure same needs roots xs → IsClosure same needs roots ys → xs ≡ ys
  pub whole : (needs : X → List X) (roots members : List X) (x : X) → IsClosure same needs roots members → IsReached needs roots x → Contains members x
  pub once : (needs : X → List X) (roots members : List X) → IsClosure same needs roots members → AllPairs (λ x y. x ≢ y) members

-- of numbers, and of names
abbrev pub ClosuresOfNumbers : Type 0
ClosuresOfNumbers = ClosuresOf ℕ nat_eq

abbrev pub ClosuresOfNames : Type 0
ClosuresOfNames = ClosuresOf (List ℕ) bytes_eq

-- a name leads to its first exported definition
abbrev pub ExportsAreFirst : Type 0
ExportsAreFirst = (symbols : List Symbol) (name : List ℕ) → get (exports_of symbols) name ≡ first_export symbols name
