-- Lists: what is first among those that pass a test.
use Rattle.std.proofs.Common.{◌≡◌, Bool, true, false, List, [], ◌∷◌, filter, Option, refl}
use Rattle.std.specs.Prelude.{slice_get, find, ◌&&◌, ◌==◌, ℕ}
use Rattle.std.specs.Option.{option_or}
use Rattle.elf_model.specs.declared.constants.TheConstants.{STB_GLOBAL, STB_WEAK}
use Rattle.link_model.specs.Inputs.{InputSymbol}
use Rattle.link_model.specs.Joined.{defines, is_common, definition_taken}

pub first_filtered : {X : Type 0} (p : X → Bool) (xs : List X) → slice_get (filter p xs) 0 ≡ find p xs
first_filtered p [] = refl
first_filtered p (x ∷ xs) = by (first_filtered p xs) (p x) refl
  where
    by : slice_get (filter p xs) 0 ≡ find p xs → (b : Bool) → p x ≡ b → slice_get (filter p (x ∷ xs)) 0 ≡ find p (x ∷ xs)
    by rest true e = rw e refl
    by rest false e = rw e rest

-- ---- the definition of a name

abbrev pub first_defined : ℕ → List InputSymbol → Option InputSymbol
first_defined binding xs = find (λ x. defines (x.symbol).place && (x.symbol).binding == binding) xs

pub taken_first : (xs : List InputSymbol)
    → definition_taken xs ≡ option_or (first_defined STB_GLOBAL xs) (option_or (find (λ x. is_common (x.symbol).place) xs) (first_defined STB_WEAK xs))
taken_first xs =
    let global = first_filtered (λ x. defines (x.symbol).place && (x.symbol).binding == STB_GLOBAL) xs in
    let common = first_filtered (λ x. is_common (x.symbol).place) xs in
    let weak = first_filtered (λ x. defines (x.symbol).place && (x.symbol).binding == STB_WEAK) xs in
    λ i. option_or (global i) (option_or (common i) (weak i))
