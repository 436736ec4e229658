-- What is found in a list. More is `Rattle.std.proofs.lemmas.List.Folds`.
use Rattle.std.proofs.Common.{◌≡◌, ℕ, inl, inr, Bool, true, false, cond, List, [], ◌∷◌, length, All, Some, None, refl, sym, ap, ◌∙◌}
use Rattle.std.specs.Prelude.{Contains, slice_get}
use Rattle.std.specs.List.{find, list_any}
use Rattle.std.proofs.lemmas.Bool.{false≢true, or_parts}
use Rattle.std.proofs.lemmas.List.Elements.{All-head, All-tail, All-cons, All-nil, All-contains}
use Rattle.std.proofs.lemmas.List.Folds.{Any-from_list_any}
use Rattle.std.proofs.lemmas.Option.{slice_get_read}
use Rattle.fd_base.proofs.Members.{contains_first, contains_later, first_or_later, nothing_in}

module _ {X : Type 0} where
  -- what is found is a member that passes
  pub find_some : (p : X → Bool) (xs : List X) (x : X) → find p xs ≡ Some x → Contains xs x × (p x ≡ true)
  find_some p [] x is = absurd cc
  find_some p (y ∷ xs) x is =
      elim (p y) as (λ b. p y ≡ b → cond b (Some y) (find p xs) ≡ Some x → Contains (y ∷ xs) x × (p x ≡ true)) [
        | true ↦ λ passes found. let same : y ≡ x = cc in (contains_first y x xs same, ap p (sym same) ∙ passes)
        | false ↦ λ fails found. let rest = find_some p xs x found in (contains_later y x xs rest.0, rest.1)
      ] refl is

  -- so what holds of all holds of it
  pub find_gives : (p : X → Bool) (P : X → Type 0) (xs : List X) (x : X) → find p xs ≡ Some x → All P xs → (p x ≡ true) × P x
  find_gives p P xs x is all = let found = find_some p xs x is in (found.1, All-contains P xs x all found.0)

  -- where none passes, none is found, and the other way
  pub find_none : (p : X → Bool) (xs : List X) → All (λ x. p x ≡ false) xs → find p xs ≡ None
  find_none p [] none = refl
  find_none p (y ∷ xs) none =
      ap (λ b. cond b (Some y) (find p xs)) (All-head (λ x. p x ≡ false) y xs none) ∙ find_none p xs (All-tail (λ x. p x ≡ false) y xs none)

  pub none_found : (p : X → Bool) (xs : List X) → find p xs ≡ None → All (λ x. p x ≡ false) xs
  none_found p [] none = All-nil (λ x. p x ≡ false)
  none_found p (y ∷ xs) none =
      elim (p y) as (λ b. p y ≡ b → cond b (Some y) (find p xs) ≡ None → All (λ x. p x ≡ false) (y ∷ xs)) [
        | true ↦ λ passes found. absurd cc
        | false ↦ λ fails found. All-cons (λ x. p x ≡ false) y xs fails (none_found p xs found)
      ] refl none

  -- where a member passes, one is found
  pub find_there : (p : X → Bool) (xs : List X) (x : X) → Contains xs x → p x ≡ true → (y : X) × (find p xs ≡ Some y)
  find_there p [] x there passes = absurd (nothing_in x there)
  find_there p (y ∷ xs) x there passes =
      elim (p y) as (λ b. p y ≡ b → (z : X) × (cond b (Some y) (find p xs) ≡ Some z)) [
        | true ↦ λ here. (y, refl)
        | false ↦ λ fails. elim (first_or_later y x xs there) [
          | inl is ↦ absurd (false≢true (sym fails ∙ ap p is ∙ passes))
          | inr later ↦ find_there p xs x later passes
        ]
      ] refl

  -- ---- whether any passes

  -- one that passes, at its place
  pub any_at : (p : X → Bool) (xs : List X) → list_any p xs ≡ true → (k : ℕ) × (x : X) × ((slice_get xs k ≡ Some x) × (p x ≡ true))
  any_at p xs any =
      let one = Any-from_list_any p xs any in
      (one.0, one.1, (slice_get_read xs (length xs) one.0 one.1 refl one.2 (sym one.3), one.4))

  pub none_pass : (p : X → Bool) (xs : List X) → list_any p xs ≡ false → All (λ x. p x ≡ false) xs
  none_pass p [] none = All-nil (λ x. p x ≡ false)
  none_pass p (x ∷ xs) none =
      let parts = or_parts (p x) (list_any p xs) none in
      All-cons (λ x. p x ≡ false) x xs parts.0 (none_pass p xs parts.1)
