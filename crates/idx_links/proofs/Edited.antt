-- Lists of numbers after one comes in or goes out.
use Rattle.std.proofs.Common.{◌≡◌, ℕ, suc, ◌+◌, ◌⊎◌, inl, inr, not, ◌==◌, List, [], ◌∷◌, length, Option, Some, None, IfSome, refl, sym, ap, ◌∙◌, subst, arith}
use Rattle.std.specs.Prelude.{◌≢◌, Contains, AllPairs, slice_get}
use Rattle.std.proofs.lemmas.Bool.{cases_eq, eq-eqb, ne_eqb, both_ways, not_from_true, not_from_false}
use Rattle.std.proofs.lemmas.Option.{IfSome_then}
use Rattle.fd_base.proofs.Members.{contains_first, contains_later, first_or_later, nothing_in, in_filter, filter_in}
use Rattle.idx_links.specs.parts.Nodes.{inserted_behind, inserted_after, without, id_behind}

-- numbers among which one isn't
pub not_first : (x y : ℕ) (xs : List ℕ) → ¬ Contains (x ∷ xs) y → x ≢ y
not_first x y xs off is = off (contains_first x y xs is)

pub not_later : (x y : ℕ) (xs : List ℕ) → ¬ Contains (x ∷ xs) y → ¬ Contains xs y
not_later x y xs off there = off (contains_later x y xs there)

-- ---- out

abbrev pub less : ℕ → List ℕ → List ℕ
less y xs = without (λ x. x) y xs

pub less-first : (y : ℕ) (xs : List ℕ) → less y (y ∷ xs) ≡ less y xs
less-first y xs = rw (eq-eqb y y refl)

pub less-other : (x y : ℕ) (xs : List ℕ) → x ≢ y → less y (x ∷ xs) ≡ x ∷ less y xs
less-other x y xs differ = rw (ne_eqb x y differ)

pub less-none : (y : ℕ) (xs : List ℕ) → ¬ Contains xs y → less y xs ≡ xs
less-none y [] off = refl
less-none y (x ∷ xs) off = less-other x y xs (not_first x y xs off) ∙ ap (λ zs. x ∷ zs) (less-none y xs (not_later x y xs off))

pub in_less : (x y : ℕ) (xs : List ℕ) → Contains (less y xs) x → Contains xs x
in_less x y xs there = (in_filter (λ z. not (z == y)) xs x there).0

-- ---- in

abbrev pub more : Option ℕ → ℕ → List ℕ → List ℕ
more at y xs = inserted_after (λ x. x) at y xs

abbrev pub more_behind : ℕ → ℕ → List ℕ → List ℕ
more_behind at y xs = inserted_behind (λ x. x) at y xs

pub more_behind-other : (x at y : ℕ) (xs : List ℕ) → x ≢ at → more_behind at y (x ∷ xs) ≡ x ∷ more_behind at y xs
more_behind-other x at y xs differ = rw (ne_eqb x at differ)

in_more_behind : (at x y : ℕ) (xs : List ℕ) → Contains (more_behind at y xs) x → (y ≡ x) ⊎ Contains xs x
in_more_behind at x y [] there = inr there
in_more_behind at x y (z ∷ zs) there = elim (cases_eq z at) [
  | inl is ↦ elim (first_or_later z x (y ∷ zs) (rw (eq-eqb z at is) at there)) [
    | inl first ↦ inr (contains_first z x zs first)
    | inr later ↦ elim (first_or_later y x zs later) [ inl new ↦ inl new | inr old ↦ inr (contains_later z x zs old) ]
  ]
  | inr differ ↦ elim (first_or_later z x (more_behind at y zs) (rw (ne_eqb z at differ) at there)) [
    | inl first ↦ inr (contains_first z x zs first)
    | inr later ↦ elim (in_more_behind at x y zs later) [ inl new ↦ inl new | inr old ↦ inr (contains_later z x zs old) ]
  ]
]

-- what is in it then is the new one or was in it
pub in_more : (at : Option ℕ) (x y : ℕ) (xs : List ℕ) → Contains (more at y xs) x → (y ≡ x) ⊎ Contains xs x
in_more None x y xs there = first_or_later y x xs there
in_more (Some at) x y xs there = in_more_behind at x y xs there

in_more_behind_old : (at x y : ℕ) (xs : List ℕ) → Contains xs x → Contains (more_behind at y xs) x
in_more_behind_old at x y [] there = absurd (nothing_in x there)
in_more_behind_old at x y (z ∷ zs) there = elim (cases_eq z at) [
  | inl is ↦ rw (eq-eqb z at is) (elim (first_or_later z x zs there) [ inl first ↦ contains_first z x (y ∷ zs) first | inr later ↦ contains_later z x (y ∷ zs) (contains_later y x zs later) ])
  | inr differ ↦ rw (ne_eqb z at differ) (elim (first_or_later z x zs there) [ inl first ↦ contains_first z x (more_behind at y zs) first | inr later ↦ contains_later z x (more_behind at y zs) (in_more_behind_old at x y zs later) ])
]

-- what was in it is in it then
pub more_old : (at : Option ℕ) (x y : ℕ) (xs : List ℕ) → Contains xs x → Contains (more at y xs) x
more_old None x y xs there = contains_later y x xs there
more_old (Some at) x y xs there = in_more_behind_old at x y xs there

more_behind_new : (at y : ℕ) (xs : List ℕ) → Contains xs at → Contains (more_behind at y xs) y
more_behind_new at y [] there = absurd (nothing_in at there)
more_behind_new at y (z ∷ zs) there = elim (cases_eq z at) [
  | inl is ↦ rw (eq-eqb z at is) (contains_later z y (y ∷ zs) (contains_first y y zs refl))
  | inr differ ↦ rw (ne_eqb z at differ) (contains_later z y (more_behind at y zs) (more_behind_new at y zs (elim (first_or_later z at zs there) [ inl is ↦ absurd (differ is) | inr later ↦ later ])))
]

-- the new one is in it
pub more_new : (at : Option ℕ) (y : ℕ) (xs : List ℕ) → IfSome at (Contains xs) → Contains (more at y xs) y
more_new None y xs there = contains_first y y xs refl
more_new (Some at) y xs there = more_behind_new at y xs there

length-more_behind : (at y : ℕ) (xs : List ℕ) → Contains xs at → length (more_behind at y xs) ≡ length xs + 1
length-more_behind at y [] there = absurd (nothing_in at there)
length-more_behind at y (z ∷ zs) there = elim (cases_eq z at) [
  | inl is ↦ rw (eq-eqb z at is) (omega arith)
  | inr differ ↦ rw (ne_eqb z at differ) (omega (arith, length-more_behind at y zs (elim (first_or_later z at zs there) [ inl is ↦ absurd (differ is) | inr later ↦ later ])))
]

pub length-more : (at : Option ℕ) (y : ℕ) (xs : List ℕ) → IfSome at (Contains xs) → length (more at y xs) ≡ length xs + 1
length-more None y xs there = omega arith
length-more (Some at) y xs there = length-more_behind at y xs there

-- ---- those that stay

pub not_in_less : (y : ℕ) (xs : List ℕ) → ¬ Contains (less y xs) y
not_in_less y xs there = both_ways (not (y == y)) (not_from_true (y == y) (eq-eqb y y refl)) (in_filter (λ z. not (z == y)) xs y there).1

pub stays_in_less : (x y : ℕ) (xs : List ℕ) → x ≢ y → Contains xs x → Contains (less y xs) x
stays_in_less x y xs differ there = filter_in (λ z. not (z == y)) xs x there (not_from_false (x == y) (ne_eqb x y differ))

pub first_apart : (x : ℕ) (xs : List ℕ) → AllPairs ◌≢◌ (x ∷ xs) → ¬ Contains xs x
first_apart x xs once there = once 0 (suc there.0) x (omega arith) (omega (arith, there.1)) (sym there.2)

pub rest_once : (x : ℕ) (xs : List ℕ) → AllPairs ◌≢◌ (x ∷ xs) → AllPairs ◌≢◌ xs
rest_once x xs once i j d lt within = once (suc i) (suc j) d (omega arith) (omega arith)

pub less_of_first : (y : ℕ) (xs : List ℕ) → AllPairs ◌≢◌ (y ∷ xs) → less y (y ∷ xs) ≡ xs
less_of_first y xs once = less-first y xs ∙ less-none y xs (first_apart y xs once)

pub length-less : (y : ℕ) (xs : List ℕ) → AllPairs ◌≢◌ xs → Contains xs y → length (less y xs) + 1 ≡ length xs
length-less y [] once there = absurd (nothing_in y there)
length-less y (x ∷ xs) once there = elim (first_or_later x y xs there) [
  | inl is ↦ subst (λ z. length (less z (x ∷ xs)) + 1 ≡ suc (length xs)) is (omega (arith, ap length (less_of_first x xs once)))
  | inr later ↦
      let differ : x ≢ y = λ is. first_apart x xs once (subst (Contains xs) (sym is) later) in
      rw (less-other x y xs differ) (omega (arith, length-less y xs (rest_once x xs once) later))
]

-- ---- neighbours

pub first_in : (xs : List ℕ) → IfSome (slice_get xs 0) (Contains xs)
first_in [] = tt
first_in (x ∷ xs) = contains_first x x xs refl

pub behind_in : (y : ℕ) (xs : List ℕ) → IfSome (id_behind y xs) (Contains xs)
behind_in y [] = tt
behind_in y (x ∷ xs) = elim (cases_eq x y) [
  | inl is ↦ rw (eq-eqb x y is) (IfSome_then (slice_get xs 0) (first_in xs) (λ z there. contains_later x z xs there))
  | inr differ ↦ rw (ne_eqb x y differ) (IfSome_then (id_behind y xs) (behind_in y xs) (λ z there. contains_later x z xs there))
]
