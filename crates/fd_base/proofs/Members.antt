-- Members of lists that are made from others. More is `Rattle.std.proofs.lemmas.List.Elements`.
use Rattle.std.proofs.Common.{◌≡◌, ℕ, zero, suc, ◌<◌, ◌⊎◌, inl, inr, Bool, true, false, cond, List, [], ◌∷◌, length, get_or, map, take, drop, All, Option, Some, None, refl, sym, ap, ◌∙◌, subst, arith}
use Rattle.std.specs.Prelude.{Contains, filter, slice_get}
use Rattle.std.specs.List.{flat_map, filter_map, cons_option}
use Rattle.std.proofs.lemmas.Bool.{false≢true}
use Rattle.std.proofs.lemmas.List.{take-append-drop}
use Rattle.std.proofs.lemmas.List.Elements.{Contains-append_left, Contains-append_right, Contains-append_cases, Contains-get_or}
use Rattle.std.proofs.lemmas.Option.{slice_get_within, get_or_from_slice_get}

module _ {X : Type 0} where
  pub contains_first : (x y : X) (xs : List X) → x ≡ y → Contains (x ∷ xs) y
  contains_first x y xs is = (zero, omega arith, is)

  pub contains_later : (x y : X) (xs : List X) → Contains xs y → Contains (x ∷ xs) y
  contains_later x y xs there = (suc there.0, omega (arith, there.1), there.2)

  pub first_or_later : (x y : X) (xs : List X) → Contains (x ∷ xs) y → (x ≡ y) ⊎ Contains xs y
  first_or_later x y xs there = by_place there.0 there.1 there.2
    where
      by_place : (k : ℕ) → k < suc (length xs) → get_or (x ∷ xs) k y ≡ y → (x ≡ y) ⊎ Contains xs y
      by_place zero lt is = inl is
      by_place (suc k) lt is = inr (k, omega arith, is)

  pub nothing_in : (y : X) → Contains [] y → ⊥
  nothing_in y there = absurd (omega (arith, there.1))

  -- what stands at a place is a member, and the other way
  pub contains_at : (xs : List X) (k : ℕ) (x : X) → slice_get xs k ≡ Some x → Contains xs x
  contains_at xs k x is = (k, slice_get_within xs k x is, get_or_from_slice_get xs k x x is)

  pub at_contained : (xs : List X) (x : X) → Contains xs x → (k : ℕ) × (k < length xs) × (slice_get xs k ≡ Some x)
  at_contained xs x there = (there.0, there.1, at xs there.0 x there.1 there.2)
    where
      at : (xs : List X) (k : ℕ) (x : X) → k < length xs → get_or xs k x ≡ x → slice_get xs k ≡ Some x
      at [] k x lt is = absurd (omega arith)
      at (y ∷ xs) zero x lt is = ap Some is
      at (y ∷ xs) (suc k) x lt is = at xs k x (omega arith) is

  -- what holds of each member holds of all
  pub all_contained : (P : X → Type 0) (xs : List X) → ((x : X) → Contains xs x → P x) → All P xs
  all_contained P xs each k d lt = each (get_or xs k d) (Contains-get_or xs k d lt)

  pub in_take : (n : ℕ) (xs : List X) (x : X) → Contains (take n xs) x → Contains xs x
  in_take n xs x there = subst (λ ys. Contains ys x) (take-append-drop n xs) (Contains-append_left (take n xs) (drop n xs) x there)

  -- ---- what a filter keeps

  pub in_filter : (p : X → Bool) (xs : List X) (x : X) → Contains (filter p xs) x → Contains xs x × (p x ≡ true)
  in_filter p [] x there = absurd (nothing_in x there)
  in_filter p (y ∷ xs) x there =
      let later : Contains (filter p xs) x → Contains (y ∷ xs) x × (p x ≡ true) = λ kept. let rest = in_filter p xs x kept in (contains_later y x xs rest.0, rest.1) in
      elim (p y) as (λ b. p y ≡ b → Contains (cond b (y ∷ filter p xs) (filter p xs)) x → Contains (y ∷ xs) x × (p x ≡ true)) [
        | true ↦ λ passes kept. elim (first_or_later y x (filter p xs) kept) [
          | inl here ↦ (contains_first y x xs here, ap p (sym here) ∙ passes)
          | inr there' ↦ later there'
        ]
        | false ↦ λ fails kept. later kept
      ] refl there

  pub filter_in : (p : X → Bool) (xs : List X) (x : X) → Contains xs x → p x ≡ true → Contains (filter p xs) x
  filter_in p [] x there passes = absurd (nothing_in x there)
  filter_in p (y ∷ xs) x there passes =
      elim (p y) as (λ b. p y ≡ b → Contains (cond b (y ∷ filter p xs) (filter p xs)) x) [
        | true ↦ λ here. elim (first_or_later y x xs there) [
          | inl is ↦ contains_first y x (filter p xs) is
          | inr later ↦ contains_later y x (filter p xs) (filter_in p xs x later passes)
        ]
        | false ↦ λ fails. elim (first_or_later y x xs there) [
          | inl is ↦ absurd (false≢true (sym fails ∙ ap p is ∙ passes))
          | inr later ↦ filter_in p xs x later passes
        ]
      ] refl

  behind_option : (o : Option X) (xs : List X) (y : X) → Contains xs y → Contains (cons_option o xs) y
  behind_option (Some x) xs y there = contains_later x y xs there
  behind_option None xs y there = there

  from_option : (o : Option X) (xs : List X) (y : X) → Contains (cons_option o xs) y → (o ≡ Some y) ⊎ Contains xs y
  from_option (Some x) xs y there = elim (first_or_later x y xs there) [ inl is ↦ inl (ap Some is) | inr later ↦ inr later ]
  from_option None xs y there = inr there

-- ---- what a function gives of members

module _ {X Y : Type 0} where
  pub in_map : (f : X → Y) (xs : List X) (y : Y) → Contains (map f xs) y → (x : X) × Contains xs x × (f x ≡ y)
  in_map f [] y there = absurd (nothing_in y there)
  in_map f (x ∷ xs) y there =
      elim (first_or_later (f x) y (map f xs) there) [
        | inl is ↦ (x, contains_first x x xs refl, is)
        | inr later ↦ let rest = in_map f xs y later in (rest.0, contains_later x rest.0 xs rest.1, rest.2)
      ]

  pub map_in : (f : X → Y) (xs : List X) (x : X) → Contains xs x → Contains (map f xs) (f x)
  map_in f [] x there = absurd (nothing_in x there)
  map_in f (z ∷ xs) x there =
      elim (first_or_later z x xs there) [
        | inl is ↦ contains_first (f z) (f x) (map f xs) (ap f is)
        | inr later ↦ contains_later (f z) (f x) (map f xs) (map_in f xs x later)
      ]

  pub in_flat_map : (f : X → List Y) (xs : List X) (y : Y) → Contains (flat_map f xs) y → (x : X) × Contains xs x × Contains (f x) y
  in_flat_map f [] y there = absurd (nothing_in y there)
  in_flat_map f (x ∷ xs) y there =
      elim (Contains-append_cases (f x) (flat_map f xs) y there) [
        | inl here ↦ (x, contains_first x x xs refl, here)
        | inr later ↦ let rest = in_flat_map f xs y later in (rest.0, contains_later x rest.0 xs rest.1, rest.2)
      ]

  pub flat_map_in : (f : X → List Y) (xs : List X) (x : X) (y : Y) → Contains xs x → Contains (f x) y → Contains (flat_map f xs) y
  flat_map_in f [] x y there here = absurd (nothing_in x there)
  flat_map_in f (z ∷ xs) x y there here =
      elim (first_or_later z x xs there) [
        | inl is ↦ Contains-append_left (f z) (flat_map f xs) y (subst (λ (w : X). Contains (f w) y) (sym is) here)
        | inr later ↦ Contains-append_right (f z) (flat_map f xs) y (flat_map_in f xs x y later here)
      ]

  pub in_filter_map : (f : X → Option Y) (xs : List X) (y : Y) → Contains (filter_map f xs) y → (x : X) × Contains xs x × (f x ≡ Some y)
  in_filter_map f [] y there = absurd (nothing_in y there)
  in_filter_map f (x ∷ xs) y there =
      elim (from_option (f x) (filter_map f xs) y there) [
        | inl is ↦ (x, contains_first x x xs refl, is)
        | inr later ↦ let rest = in_filter_map f xs y later in (rest.0, contains_later x rest.0 xs rest.1, rest.2)
      ]

  pub filter_map_in : (f : X → Option Y) (xs : List X) (x : X) (y : Y) → Contains xs x → f x ≡ Some y → Contains (filter_map f xs) y
  filter_map_in f [] x y there is = absurd (nothing_in x there)
  filter_map_in f (z ∷ xs) x y there is =
      elim (first_or_later z x xs there) [
        | inl here ↦
            let found : f z ≡ Some y = subst (λ (w : X). f w ≡ Some y) (sym here) is in
            rw found (contains_first y y (filter_map f xs) refl)
        | inr later ↦ behind_option (f z) (filter_map f xs) y (filter_map_in f xs x y later is)
      ]
