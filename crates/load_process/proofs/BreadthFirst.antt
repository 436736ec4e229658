-- The names that are found from a root on.
use Rattle.std.proofs.Common.{◌≡◌, ◌≢◌, ℕ, zero, suc, ◌+◌, ◌<◌, ◌≤◌, ◌⊎◌, inl, inr, List, [], ◌∷◌, ◌++◌, length, get_or, take, refl, sym, ap, ◌∙◌, subst, arith, All, Option, Some, None}
use Rattle.std.specs.Prelude.{AllPairs, slice_get}
use Rattle.std.specs.Option.{option_map_or}
use Rattle.std.specs.List.{flat_map}
use Rattle.std.specs.Str.{bytes_eq}
use Rattle.std.proofs.lemmas.Bool.{cases_lt}
use Rattle.std.proofs.lemmas.Slice.Eq.{bytes_eq-Decides}
use Rattle.std.proofs.lemmas.List.{take_all, take_more, get_or-take, length-take}
use Rattle.std.proofs.lemmas.Option.{slice_get_within, slice_get-get_or, slice_get_past, get_or_from_slice_get}
use Rattle.symbol_scope.specs.Closure.{with_one, with_new, firsts, IsReached, IsClosure}
use Rattle.symbol_scope.proofs.Growing.{with_new-append, take-with_new, length-with_new, once_more}
use Rattle.symbol_scope.proofs.Marking.{order_more, reached_more, first_reached, closed}
use Rattle.load_model.specs.Walk.{found_after}

abbrev pub Names : Type 0
Names = List (List ℕ)

abbrev pub Needs : Type 0
Needs = List ℕ → Names

-- ---- one list stands in front of another

pub record IsFront (xs ys : Names) : Type 0 where
  pub len : length xs ≤ length ys
  pub same : take (length xs) ys ≡ xs

front_self : (xs : Names) → IsFront xs xs
front_self xs = record { len = omega arith; same = take_all (length xs) xs (omega arith) }

front_more : (xs ys more : Names) → IsFront xs ys → IsFront xs (with_new bytes_eq ys more)
front_more xs ys more front = record {
  len = omega (arith, front.len, length-with_new bytes_eq ys more);
  same = take-with_new bytes_eq (length xs) ys more front.len ∙ front.same;
}

pub front : (needs : Needs) (root : List ℕ) (k n : ℕ) → k ≤ n → IsFront (found_after needs root k) (found_after needs root n)
front needs root k zero le =
    let e : zero ≡ k = omega arith in
    subst (λ m. IsFront (found_after needs root k) (found_after needs root m)) (sym e) (front_self (found_after needs root k))
front needs root k (suc n) le = elim (cases_lt k (suc n)) [
  | inl less ↦
      let before = found_after needs root n in
      front_more (found_after needs root k) before (option_map_or needs (slice_get before n) []) (front needs root k n (omega arith))
  | inr more ↦
      let e : k ≡ suc n = omega arith in
      subst (λ m. IsFront (found_after needs root k) (found_after needs root m)) e (front_self (found_after needs root k))
]

pub front_get : (xs ys : Names) (i : ℕ) (x : List ℕ) → IsFront xs ys → slice_get xs i ≡ Some x → slice_get ys i ≡ Some x
front_get xs ys i x front e =
    let lt : i < length xs = slice_get_within xs i x e in
    let within : i < length ys = omega (arith, front.len) in
    let is : get_or ys i x ≡ x =
    sym (get_or-take (length xs) ys i x lt) ∙ ap (λ l. get_or l i x) front.same ∙ get_or_from_slice_get xs i x x e in
    slice_get-get_or ys i x within ∙ ap Some is

-- what was found stays at its place
pub stays : (needs : Needs) (root : List ℕ) (k n i : ℕ) (x : List ℕ) → k ≤ n → slice_get (found_after needs root k) i ≡ Some x → slice_get (found_after needs root n) i ≡ Some x
stays needs root k n i x le e = front_get (found_after needs root k) (found_after needs root n) i x (front needs root k n le) e

-- ---- one more name

pub found_next : (needs : Needs) (root : List ℕ) (n : ℕ) (name : List ℕ) → slice_get (found_after needs root n) n ≡ Some name
    → found_after needs root (suc n) ≡ with_new bytes_eq (found_after needs root n) (needs name)
found_next needs root n name e = ap (λ o. with_new bytes_eq (found_after needs root n) (option_map_or needs o [])) e

pub found_stuck : (needs : Needs) (root : List ℕ) (n : ℕ) → length (found_after needs root n) ≤ n → found_after needs root (suc n) ≡ found_after needs root n
found_stuck needs root n le =
    ap (λ o. with_new bytes_eq (found_after needs root n) (option_map_or needs o [])) (slice_get_past (found_after needs root n) n le)

-- past the last name nothing is found
pub found_all : (needs : Needs) (root : List ℕ) (k n : ℕ) → length (found_after needs root k) ≤ k → k ≤ n → found_after needs root n ≡ found_after needs root k
found_all needs root k zero whole le = let e : zero ≡ k = omega arith in ap (found_after needs root) e
found_all needs root k (suc n) whole le = elim (cases_lt k (suc n)) [
  | inl less ↦
      let before : found_after needs root n ≡ found_after needs root k = found_all needs root k n whole (omega arith) in
      let short : length (found_after needs root n) ≤ n = omega (arith, ap length before) in
      found_stuck needs root n short ∙ before
  | inr more ↦ let e : suc n ≡ k = omega arith in ap (found_after needs root) e
]

same_needs : (f g : Needs) (o : Option (List ℕ)) → ((x : List ℕ) → o ≡ Some x → f x ≡ g x) → option_map_or f o [] ≡ option_map_or g o []
same_needs f g None same = refl
same_needs f g (Some x) same = same x refl

-- needs that agree on the first n names find the same names
pub agree : (f g : Needs) (root : List ℕ) (n : ℕ) → ((k : ℕ) (x : List ℕ) → k < n → slice_get (found_after f root k) k ≡ Some x → f x ≡ g x)
    → found_after f root n ≡ found_after g root n
agree f g root zero same = refl
agree f g root (suc n) same =
    let before : found_after f root n ≡ found_after g root n = agree f g root n (λ k x lt e. same k x (omega arith) e) in
    ap (λ l. with_new bytes_eq l (option_map_or f (slice_get l n) [])) before
    ∙ ap (with_new bytes_eq (found_after g root n))
    (same_needs f g (slice_get (found_after g root n) n) (λ x e. same n x (omega arith) (ap (λ l. slice_get l n) before ∙ e)))

-- ---- each once

pub found_once : (needs : Needs) (root : List ℕ) (n : ℕ) → AllPairs (λ x y. x ≢ y) (found_after needs root n)
found_once needs root zero = λ i j d lt within. absurd (omega arith)
found_once needs root (suc n) =
    once_more bytes_eq bytes_eq-Decides (found_after needs root n) (option_map_or needs (slice_get (found_after needs root n) n) []) (found_once needs root n)

pub some_found : (needs : Needs) (root : List ℕ) (n : ℕ) → 1 ≤ length (found_after needs root n)
some_found needs root n = (front needs root 0 n (omega arith)).len

-- ---- the closure

abbrev IsOrdered : Needs → List ℕ → ℕ → Names → Type 0
IsOrdered needs root n names = names ≡ firsts bytes_eq (root ∷ [] ++ flat_map needs (take n names))

some_of : (xs : Names) (k : ℕ) → k < length xs → List ℕ
some_of [] k lt = absurd (omega arith)
some_of (x ∷ xs) k lt = x

next_of : (xs : Names) (n : ℕ) → (length xs ≤ n) ⊎ ((x : List ℕ) × (slice_get xs n ≡ Some x))
next_of xs n = elim (cases_lt n (length xs)) [
  | inl less ↦ let d = some_of xs n less in inr (get_or xs n d, slice_get-get_or xs n d less)
  | inr more ↦ inl more
]

pub found_ordered : (needs : Needs) (root : List ℕ) (n : ℕ) → IsOrdered needs root n (found_after needs root n)
found_ordered needs root zero = refl
found_ordered needs root (suc n) =
    let now = found_after needs root n in
    let before : IsOrdered needs root n now = found_ordered needs root n in
    elim (next_of now n) [
      | inl whole ↦
          let same : take (suc n) now ≡ take n now = take_all (suc n) now (omega arith) ∙ sym (take_all n now whole) in
          subst (IsOrdered needs root (suc n)) (sym (found_stuck needs root n whole))
          (before ∙ ap (λ l. firsts bytes_eq (root ∷ [] ++ flat_map needs l)) (sym same))
      | inr next ↦
          let lt : n < length now = slice_get_within now n next.0 next.1 in
          let is : next.0 ≡ get_or now n next.0 = sym (get_or_from_slice_get now n next.0 next.0 next.1) in
          let e : n + 1 ≡ suc n = omega arith in
          subst (λ m. IsOrdered needs root m (found_after needs root (suc n))) e
          (order_more bytes_eq needs root n next.0 now (found_after needs root (suc n)) lt is before (found_next needs root n next.0 next.1))
    ]

pub found_reached : (needs : Needs) (root : List ℕ) (n : ℕ) → All (IsReached needs (root ∷ [])) (found_after needs root n)
found_reached needs root zero = first_reached needs root (root ∷ []) refl
found_reached needs root (suc n) =
    let now = found_after needs root n in
    let before = found_reached needs root n in
    elim (next_of now n) [
      | inl whole ↦ subst (All (IsReached needs (root ∷ []))) (sym (found_stuck needs root n whole)) before
      | inr next ↦
          let lt : n < length now = slice_get_within now n next.0 next.1 in
          let is : next.0 ≡ get_or now n next.0 = sym (get_or_from_slice_get now n next.0 next.0 next.1) in
          reached_more bytes_eq needs root n next.0 now (found_after needs root (suc n)) lt is before (found_next needs root n next.0 next.1)
    ]

pub found_closed : (needs : Needs) (root : List ℕ) (names : Names) → names ≡ found_after needs root (length names) → IsClosure bytes_eq needs (root ∷ []) names
found_closed needs root names e =
    let n = length names in
    closed bytes_eq needs root n names (omega arith) (subst (IsOrdered needs root n) (sym e) (found_ordered needs root n))
    (subst (All (IsReached needs (root ∷ []))) (sym e) (found_reached needs root n))

-- ---- a name stands apart from those before it

pub apart : (names : Names) (n : ℕ) (name : List ℕ) → AllPairs (λ x y. x ≢ y) names → slice_get names n ≡ Some name → All (λ x. x ≢ name) (take n names)
apart names n name once e = λ k d lt.
    let within : n < length names = slice_get_within names n name e in
    let below : k < n = before_take names n k lt in
    λ is. once k n d below within (sym (get_or-take n names k d below) ∙ is ∙ sym (get_or_from_slice_get names n name d e))
  where
    before_take : (xs : Names) (n k : ℕ) → k < length (take n xs) → k < n
    before_take xs n k lt = omega (arith, lt, length-take n xs)

pub take_next : (names more : Names) (n : ℕ) (name : List ℕ) → slice_get names n ≡ Some name → take (suc n) (with_new bytes_eq names more) ≡ take n names ++ name ∷ []
take_next names more n name e =
    let lt : n < length names = slice_get_within names n name e in
    let within : suc n ≤ length names = omega arith in
    let one : n + 1 ≡ suc n = omega arith in
    take-with_new bytes_eq (suc n) names more within ∙ ap (λ m. take m names) (sym one) ∙ take_more names n name lt
    ∙ ap (λ x. take n names ++ x ∷ []) (get_or_from_slice_get names n name name e)

-- one more name that is added
pub with_new_more : (before now after more : Names) (i : ℕ) (name : List ℕ) → i < length more → name ≡ get_or more i name → now ≡ with_new bytes_eq before (take i more)
    → after ≡ with_one bytes_eq now name → after ≡ with_new bytes_eq before (take (i + 1) more)
with_new_more before now after more i name lt is was step =
    step ∙ ap (λ l. with_new bytes_eq l (name ∷ [])) was ∙ sym (with_new-append bytes_eq before (take i more) (name ∷ []))
    ∙ ap (with_new bytes_eq before) (ap (λ x. take i more ++ x ∷ []) is ∙ sym (take_more more i name lt))
