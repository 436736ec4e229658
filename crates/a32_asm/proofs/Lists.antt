-- Lists of places.
use Rattle.std.proofs.Common.{◌≡◌, ℕ, zero, suc, ◌+◌, ◌<◌, ◌≤◌, Bool, true, false, cond, not, ◌||◌, eqb, List, [], ◌∷◌, ◌++◌, length, get_or, refl, sym, ap, ◌∙◌, inl, inr, arith, eqb-true, eq-eqb, ne_eqb, lt-ltb}
use Rattle.std.specs.Prelude.{◌==◌, nat_lt, All, filter, position, Some, None}
use Rattle.std.specs.List.{list_any, position_or_len, range_with_len, AllByRecursion, IsDistinct}
use Rattle.std.proofs.lemmas.Bool.{cases_eq, cases_lt, or_right, or_cases, cond_both, cond-true}
use Rattle.std.proofs.lemmas.List.Elements.{All-from_get_or, recursion_from_All}
use Rattle.std.proofs.lemmas.List.FromFn.{length-range_with_len, get_or-range_with_len}
use Rattle.std.proofs.lemmas.List.Folds.{list_any_at}
use Rattle.std.proofs.lemmas.Option.{cond_some, none-some}
use Rattle.std.proofs.lemmas.Map.Steps.{length-le_from_distinct_below}

-- ---- what stands there

pub push_default : {X : Type 0} (xs : List X) (d : X) (k : ℕ) → get_or (xs ++ d ∷ []) k d ≡ get_or xs k d
push_default [] d zero = refl
push_default [] d (suc k) = refl
push_default (x ∷ xs) d zero = refl
push_default (x ∷ xs) d (suc k) = push_default xs d k

pub found_at : {X : Type 0} (p : X → Bool) (xs : List X) → list_any p xs ≡ true → position_or_len p xs < length xs
found_at p [] e = absurd cc
found_at p (x ∷ xs) e = by_test (p x) e (found_at p xs)
  where
    by_test : (b : Bool) → (b || list_any p xs) ≡ true → (list_any p xs ≡ true → position_or_len p xs < length xs) → cond (not b) (1 + position_or_len p xs) 0 < suc (length xs)
    by_test true e rest = omega arith
    by_test false e rest = let l = rest e in omega arith

pub found_so : {X : Type 0} (p : X → Bool) (xs : List X) (d : X) → list_any p xs ≡ true → p (get_or xs (position_or_len p xs) d) ≡ true
found_so p [] d e = absurd cc
found_so p (x ∷ xs) d e = by_test (p x) refl e (found_so p xs d)
  where
    by_test : (b : Bool) → p x ≡ b → (b || list_any p xs) ≡ true → (list_any p xs ≡ true → p (get_or xs (position_or_len p xs) d) ≡ true) → p (get_or (x ∷ xs) (cond (not b) (1 + position_or_len p xs) 0) d) ≡ true
    by_test true is e rest = is
    by_test false is e rest = let one : 1 + position_or_len p xs ≡ suc (position_or_len p xs) = omega arith in rw one (rest e)

-- the place that is found, and where none is
pub placed_there : {X : Type 0} (p : X → Bool) (xs : List X) (i : ℕ) → position p xs ≡ Some i → i ≡ position_or_len p xs
placed_there p xs i e = sym (cond_some (nat_lt (position_or_len p xs) (length xs)) (position_or_len p xs) i e).1

at_most : {X : Type 0} (p : X → Bool) (xs : List X) → position_or_len p xs ≤ length xs
at_most p [] = omega arith
at_most p (x ∷ xs) = let l = at_most p xs in cond_both (not (p x)) (1 + position_or_len p xs) 0 (λ n. n ≤ suc (length xs)) (λ e. omega arith) (λ e. omega arith)

pub placed_nowhere : {X : Type 0} (p : X → Bool) (xs : List X) → position p xs ≡ None → length xs ≡ position_or_len p xs
placed_nowhere p xs e = elim (cases_lt (position_or_len p xs) (length xs)) [
  | inl l ↦ absurd (none-some (position_or_len p xs) (sym e ∙ cond-true (nat_lt (position_or_len p xs) (length xs)) (Some (position_or_len p xs)) None (lt-ltb (position_or_len p xs) (length xs) l)))
  | inr past ↦ (let l = at_most p xs in omega arith)
]

-- none of numbers below n is k
pub missing : (xs : List ℕ) (k n : ℕ) → All (λ x. x < n) xs → n ≤ k → position_or_len (λ j. j == k) xs ≡ length xs
missing xs k n h past = by_each xs (recursion_from_All (λ x. x < n) xs h)
  where
    by_each : (xs : List ℕ) → AllByRecursion (λ x. x < n) xs → position_or_len (λ j. j == k) xs ≡ length xs
    by_each [] h = refl
    by_each (x ∷ xs) h = let below = h.0 in let more = by_each xs h.1 in rw (ne_eqb x k (λ e. omega arith)) (omega arith)

pub any_before : {X : Type 0} (p : X → Bool) (xs ys : List X) → list_any p xs ≡ true → list_any p (xs ++ ys) ≡ true
any_before p [] ys e = absurd cc
any_before p (x ∷ xs) ys e = by_test (p x) e (any_before p xs ys)
  where
    by_test : (b : Bool) → (b || list_any p xs) ≡ true → (list_any p xs ≡ true → list_any p (xs ++ ys) ≡ true) → (b || list_any p (xs ++ ys)) ≡ true
    by_test true e rest = refl
    by_test false e rest = rest e

pub any_behind : {X : Type 0} (p : X → Bool) (xs ys : List X) → list_any p ys ≡ true → list_any p (xs ++ ys) ≡ true
any_behind p [] ys e = e
any_behind p (x ∷ xs) ys e = or_right (p x) (list_any p (xs ++ ys)) (any_behind p xs ys e)

pub place_stays : {X : Type 0} (p : X → Bool) (xs ys : List X) → list_any p xs ≡ true → position_or_len p (xs ++ ys) ≡ position_or_len p xs
place_stays p [] ys e = absurd cc
place_stays p (x ∷ xs) ys e = by_test (p x) e (place_stays p xs ys)
  where
    by_test : (b : Bool) → (b || list_any p xs) ≡ true → (list_any p xs ≡ true → position_or_len p (xs ++ ys) ≡ position_or_len p xs) → cond (not b) (1 + position_or_len p (xs ++ ys)) 0 ≡ cond (not b) (1 + position_or_len p xs) 0
    by_test true e rest = refl
    by_test false e rest = ap (λ n. 1 + n) (rest e)

-- one that passes both tests is found among those that pass one
pub any_filter : {X : Type 0} (p q : X → Bool) (xs : List X) → ((x : X) → p x ≡ true → q x ≡ true) → list_any p xs ≡ true → list_any p (filter q xs) ≡ true
any_filter p q [] h e = absurd cc
any_filter p q (x ∷ xs) h e = by_tests (p x) (q x) (h x) e (any_filter p q xs h) refl
  where
    by_tests : (a b : Bool) → (a ≡ true → b ≡ true) → (a || list_any p xs) ≡ true → (list_any p xs ≡ true → list_any p (filter q xs) ≡ true) → p x ≡ a → list_any p (cond b (x ∷ filter q xs) (filter q xs)) ≡ true
    by_tests true true h e rest is = rw is refl
    by_tests true false h e rest is = absurd (let no : false ≡ true = h refl in cc)
    by_tests false true h e rest is = rw is (rest e)
    by_tests false false h e rest is = rest e

-- ---- numbers in a row

pub range_has : (k from n : ℕ) → from ≤ k → k < from + n → list_any (eqb k) (range_with_len from n) ≡ true
range_has k from zero l h = absurd (omega arith)
range_has k from (suc n) l h = elim (cases_eq k from) [
  | inl e ↦ rw (eq-eqb k from e) refl
  | inr ne ↦ rw (ne_eqb k from ne) (range_has k (from + 1) n (grind arith) (omega arith))
]

pub range_below : (from n : ℕ) → All (λ k. k < from + n) (range_with_len from n)
range_below from n = All-from_get_or (λ k. k < from + n) (range_with_len from n) 0 (λ i l.
    let short : i < n = (let len = length-range_with_len from n in omega arith) in
    let at = get_or-range_with_len from n i 0 short in
    rw at (omega arith))

-- ---- numbers apart

range_above : (x from n : ℕ) → x < from → AllByRecursion (λ y. eqb x y ≡ false) (range_with_len from n)
range_above x from zero l = tt
range_above x from (suc n) l = (ne_eqb x from (omega arith), range_above x (from + 1) n (omega arith))

pub range_apart : (from n : ℕ) → IsDistinct eqb (range_with_len from n)
unfolding IsDistinct
range_apart from zero = tt
range_apart from (suc n) = (range_above from (from + 1) n (omega arith), range_apart (from + 1) n)

recursion_filter : (P : ℕ → Type 0) (p : ℕ → Bool) (xs : List ℕ) → AllByRecursion P xs → AllByRecursion P (filter p xs)
recursion_filter P p [] h = tt
recursion_filter P p (x ∷ xs) h = cond_both (p x) (x ∷ filter p xs) (filter p xs) (AllByRecursion P) (λ e. (h.0, recursion_filter P p xs h.1)) (λ e. recursion_filter P p xs h.1)

pub filter_apart : (p : ℕ → Bool) (xs : List ℕ) → IsDistinct eqb xs → IsDistinct eqb (filter p xs)
unfolding IsDistinct
filter_apart p [] h = tt
filter_apart p (x ∷ xs) h =
    cond_both (p x) (x ∷ filter p xs) (filter p xs) (IsDistinct eqb)
    (λ e. (recursion_filter (λ y. eqb x y ≡ false) p xs h.0, filter_apart p xs h.1)) (λ e. filter_apart p xs h.1)

recursion_append : (P : ℕ → Type 0) (xs ys : List ℕ) → AllByRecursion P xs → AllByRecursion P ys → AllByRecursion P (xs ++ ys)
recursion_append P [] ys h k = k
recursion_append P (x ∷ xs) ys h k = (h.0, recursion_append P xs ys h.1 k)

-- a number that fails a test differs from those that pass it
differs : (q : ℕ → Bool) (x : ℕ) (ys : List ℕ) → q x ≡ false → AllByRecursion (λ y. q y ≡ true) ys → AllByRecursion (λ y. eqb x y ≡ false) ys
differs q x [] fails passes = tt
differs q x (y ∷ ys) fails passes = (ne_eqb x y (λ e. let same : q x ≡ q y = ap q e in cc), differs q x ys fails passes.1)

parted_rec : (q : ℕ → Bool) (xs ys : List ℕ) → IsDistinct eqb xs → IsDistinct eqb ys → AllByRecursion (λ x. q x ≡ false) xs → AllByRecursion (λ y. q y ≡ true) ys → IsDistinct eqb (xs ++ ys)
unfolding IsDistinct
parted_rec q [] ys h k fails passes = k
parted_rec q (x ∷ xs) ys h k fails passes = (recursion_append (λ y. eqb x y ≡ false) xs ys h.0 (differs q x ys fails.0 passes), parted_rec q xs ys h.1 k fails.1 passes)

-- those that fail a test, and then those that pass it
pub parted : (q : ℕ → Bool) (xs ys : List ℕ) → IsDistinct eqb xs → IsDistinct eqb ys → All (λ x. q x ≡ false) xs → All (λ y. q y ≡ true) ys → IsDistinct eqb (xs ++ ys)
parted q xs ys h k fails passes = parted_rec q xs ys h k (recursion_from_All (λ x. q x ≡ false) xs fails) (recursion_from_All (λ y. q y ≡ true) ys passes)

below_any : (n q : ℕ) (xs : List ℕ) → AllByRecursion (λ x. x < n) xs → list_any (eqb q) xs ≡ true → q < n
below_any n q [] h e = absurd cc
below_any n q (x ∷ xs) h e = elim (or_cases (eqb q x) (list_any (eqb q) xs) e) [ inl is ↦ (let same = eqb-true q x is in let l = h.0 in omega arith) | inr there ↦ below_any n q xs h.1 there ]

-- numbers below n that are apart are at most n
pub few_apart : (n : ℕ) (xs : List ℕ) → IsDistinct eqb xs → All (λ x. x < n) xs → length xs ≤ n
few_apart n xs h below = length-le_from_distinct_below xs n h (λ q e. below_any n q xs (recursion_from_All (λ x. x < n) xs below) e)

-- each of them passes a test that holds of what is among them
pub each_among : (q : ℕ → Bool) (xs : List ℕ) → ((k : ℕ) → list_any (eqb k) xs ≡ true → q k ≡ true) → All (λ k. q k ≡ true) xs
each_among q xs h = All-from_get_or (λ k. q k ≡ true) xs 0 (λ i l. h (get_or xs i 0) (list_any_at (eqb (get_or xs i 0)) xs i 0 l (eq-eqb (get_or xs i 0) (get_or xs i 0) refl)))
