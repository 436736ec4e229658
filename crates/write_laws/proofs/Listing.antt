-- Functions of places that list values.
use Rattle.std.proofs.Common.{◌≡◌, ℕ, ◌+◌, ◌<◌, ◌≤◌, zero, suc, Bool, true, false, cond, List, [], ◌∷◌, ◌++◌, length, get_or, map, All, refl, sym, ap, ◌∙◌, subst, arith, inl, inr, add-zero}
use Rattle.std.specs.Prelude.{filter}
use Rattle.std.specs.List.{range_with_len, sum_by}
use Rattle.std.proofs.lemmas.Bool.{cases_lt}
use Rattle.std.proofs.lemmas.List.Elements.{All-head, All-tail}
use Rattle.std.proofs.lemmas.List.FromFn.{filter_of_map_range_with_len_more}
use Rattle.std.proofs.lemmas.List.Sums.{sum_by-cons}

-- from a place on a function gives these
abbrev pub Lists : {X : Type 0} → (ℕ → X) → ℕ → List X → Type 0
Lists f a [] = Unit {0}
Lists f a (x ∷ xs) = (f a ≡ x) × Lists f (a + 1) xs

module _ {X : Type 0} where
  pub lists_map : (f : ℕ → X) (a : ℕ) (xs : List X) → Lists f a xs → map f (range_with_len a (length xs)) ≡ xs
  lists_map f a [] l = refl
  lists_map f a (x ∷ xs) l = ap (λ y. y ∷ map f (range_with_len (a + 1) (length xs))) l.0 ∙ ap (λ ys. x ∷ ys) (lists_map f (a + 1) xs l.1)

  pub lists_at : (f : ℕ → X) (a : ℕ) (xs : List X) (k : ℕ) (d : X) → Lists f a xs → k < length xs → f (a + k) ≡ get_or xs k d
  lists_at f a [] k d l lt = absurd (omega arith)
  lists_at f a (x ∷ xs) zero d l lt = ap f (add-zero a) ∙ l.0
  lists_at f a (x ∷ xs) (suc k) d l lt = let e : a + suc k ≡ (a + 1) + k = omega arith in ap f e ∙ lists_at f (a + 1) xs k d l.1 (omega arith)

  pub lists_from : (f : ℕ → X) (a : ℕ) (xs : List X) → ((k : ℕ) (d : X) → k < length xs → f (a + k) ≡ get_or xs k d) → Lists f a xs
  lists_from f a [] each = tt
  lists_from f a (x ∷ xs) each =
      (ap f (sym (add-zero a)) ∙ each 0 x (omega arith), lists_from f (a + 1) xs (λ k d lt. let e : (a + 1) + k ≡ a + suc k = omega arith in ap f e ∙ each (suc k) d (omega arith)))

  pub lists_front : (f : ℕ → X) (a : ℕ) (xs ys : List X) → Lists f a (xs ++ ys) → Lists f a xs
  lists_front f a [] ys l = tt
  lists_front f a (x ∷ xs) ys l = (l.0, lists_front f (a + 1) xs ys l.1)

  pub lists_behind : (f : ℕ → X) (a : ℕ) (xs ys : List X) → Lists f a (xs ++ ys) → Lists f (a + length xs) ys
  lists_behind f a [] ys l = subst (λ n. Lists f n ys) (sym (add-zero a)) l
  lists_behind f a (x ∷ xs) ys l = let e : (a + 1) + length xs ≡ a + suc (length xs) = omega arith in subst (λ n. Lists f n ys) e (lists_behind f (a + 1) xs ys l.1)

  -- ---- the places where a test holds

  pub all_pass : (p : X → Bool) (f : ℕ → X) (a : ℕ) (xs : List X) → Lists f a xs → All (λ x. p x ≡ true) xs → filter (λ i. p (f i)) (range_with_len a (length xs)) ≡ range_with_len a (length xs)
  all_pass p f a [] l all = refl
  all_pass p f a (x ∷ xs) l all =
      let here : p (f a) ≡ true = ap p l.0 ∙ All-head (λ x. p x ≡ true) x xs all in
      ap (λ b. cond b (a ∷ filter (λ i. p (f i)) (range_with_len (a + 1) (length xs))) (filter (λ i. p (f i)) (range_with_len (a + 1) (length xs)))) here
      ∙ ap (λ ns. a ∷ ns) (all_pass p f (a + 1) xs l.1 (All-tail (λ x. p x ≡ true) x xs all))

  pub none_passes : (p : X → Bool) (f : ℕ → X) (a : ℕ) (xs : List X) → Lists f a xs → All (λ x. p x ≡ false) xs → filter (λ i. p (f i)) (range_with_len a (length xs)) ≡ []
  none_passes p f a [] l all = refl
  none_passes p f a (x ∷ xs) l all =
      let here : p (f a) ≡ false = ap p l.0 ∙ All-head (λ x. p x ≡ false) x xs all in
      ap (λ b. cond b (a ∷ filter (λ i. p (f i)) (range_with_len (a + 1) (length xs))) (filter (λ i. p (f i)) (range_with_len (a + 1) (length xs)))) here
      ∙ none_passes p f (a + 1) xs l.1 (All-tail (λ x. p x ≡ false) x xs all)

  pub all_kept : (p : X → Bool) (xs : List X) → All (λ x. p x ≡ true) xs → filter p xs ≡ xs
  all_kept p [] all = refl
  all_kept p (x ∷ xs) all =
      ap (λ b. cond b (x ∷ filter p xs) (filter p xs)) (All-head (λ x. p x ≡ true) x xs all) ∙ ap (λ ys. x ∷ ys) (all_kept p xs (All-tail (λ x. p x ≡ true) x xs all))

  pub none_kept : (p : X → Bool) (xs : List X) → All (λ x. p x ≡ false) xs → filter p xs ≡ []
  none_kept p [] all = refl
  none_kept p (x ∷ xs) all =
      ap (λ b. cond b (x ∷ filter p xs) (filter p xs)) (All-head (λ x. p x ≡ false) x xs all) ∙ none_kept p xs (All-tail (λ x. p x ≡ false) x xs all)

  -- ---- sums

  pub sum_by-append : (f : X → ℕ) (xs ys : List X) → sum_by f (xs ++ ys) ≡ sum_by f xs + sum_by f ys
  sum_by-append f [] ys = omega arith
  sum_by-append f (x ∷ xs) ys =
      let a = sum_by-cons f x (xs ++ ys) in
      let b = sum_by-cons f x xs in
      let c = sum_by-append f xs ys in
      a ∙ (let e : f x + sum_by f (xs ++ ys) ≡ (f x + sum_by f xs) + sum_by f ys = omega (arith, c) in e) ∙ ap (λ n. n + sum_by f ys) (sym b)

  -- what passes before a place, and what stands there, are a part of all
  pub sum_so_far : (p : X → Bool) (f : X → ℕ) (g : ℕ → X) (i n : ℕ) → i < n → p (g i) ≡ true
      → sum_by f (filter p (map g (range_with_len 0 i))) + f (g i) ≤ sum_by f (filter p (map g (range_with_len 0 n)))
  sum_so_far p f g i zero lt here = absurd (omega arith)
  sum_so_far p f g i (suc n) lt here =
      let one : suc n ≡ n + 1 = omega arith in
      let more : filter p (map g (range_with_len 0 (n + 1))) ≡ filter p (map g (range_with_len 0 n)) ++ cond (p (g n)) (g n ∷ []) [] = filter_of_map_range_with_len_more p g 0 n n (omega arith) in
      let sums : sum_by f (filter p (map g (range_with_len 0 (suc n)))) ≡ sum_by f (filter p (map g (range_with_len 0 n))) + sum_by f (cond (p (g n)) (g n ∷ []) [])
      = ap (λ m. sum_by f (filter p (map g (range_with_len 0 m)))) one ∙ ap (sum_by f) more ∙ sum_by-append f (filter p (map g (range_with_len 0 n))) (cond (p (g n)) (g n ∷ []) []) in
      elim (cases_lt i n) [
        | inl less ↦ let before = sum_so_far p f g i n less here in omega (arith, sums, before)
        | inr le ↦
            let same : n ≡ i = omega arith in
            let last : sum_by f (cond (p (g n)) (g n ∷ []) []) ≡ f (g i) = ap (λ k. sum_by f (cond (p (g k)) (g k ∷ []) [])) same ∙ ap (λ b. sum_by f (cond b (g i ∷ []) [])) here ∙ (let e : 0 + f (g i) ≡ f (g i) = omega arith in e) in
            let before : sum_by f (filter p (map g (range_with_len 0 n))) ≡ sum_by f (filter p (map g (range_with_len 0 i))) = ap (λ k. sum_by f (filter p (map g (range_with_len 0 k)))) same in
            omega (arith, sums, last, before)
      ]

pub range-append : (a m n : ℕ) → range_with_len a (m + n) ≡ range_with_len a m ++ range_with_len (a + m) n
range-append a zero n = let e : zero + n ≡ n = omega arith in ap (range_with_len a) e ∙ ap (λ k. range_with_len k n) (sym (add-zero a))
range-append a (suc m) n =
    let e : suc m + n ≡ suc (m + n) = omega arith in
    let k : (a + 1) + m ≡ a + suc m = omega arith in
    ap (range_with_len a) e ∙ ap (λ ns. a ∷ ns) (range-append (a + 1) m n) ∙ ap (λ j. a ∷ range_with_len (a + 1) m ++ range_with_len j n) k

-- ---- what holds of each place and what stands there

abbrev pub Each : {X : Type 0} → (ℕ → X → Type 0) → ℕ → List X → Type 0
Each R a [] = Unit {0}
Each R a (x ∷ xs) = R a x × Each R (a + 1) xs

module _ {X : Type 0} where
  pub each_at : (R : ℕ → X → Type 0) (a : ℕ) (xs : List X) (k : ℕ) (d : X) → Each R a xs → k < length xs → R (a + k) (get_or xs k d)
  each_at R a [] k d l lt = absurd (omega arith)
  each_at R a (x ∷ xs) zero d l lt = subst (λ n. R n x) (sym (add-zero a)) l.0
  each_at R a (x ∷ xs) (suc k) d l lt = let e : (a + 1) + k ≡ a + suc k = omega arith in subst (λ n. R n (get_or xs k d)) e (each_at R (a + 1) xs k d l.1 (omega arith))

  pub each_lists : (R : ℕ → X → Type 0) (f : ℕ → X) (a : ℕ) (xs : List X) → ((k : ℕ) (x : X) → R k x → f k ≡ x) → Each R a xs → Lists f a xs
  each_lists R f a [] gives l = tt
  each_lists R f a (x ∷ xs) gives l = (gives a x l.0, each_lists R f (a + 1) xs gives l.1)

-- ---- the one place where a test holds

module _ {X : Type 0} where
  pub one_passes : (p : X → Bool) (f : ℕ → X) (a : ℕ) (xs : List X) (x : X) (ys : List X) → Lists f a (xs ++ x ∷ ys) → All (λ x. p x ≡ false) xs → p x ≡ true → All (λ x. p x ≡ false) ys
      → filter (λ i. p (f i)) (range_with_len a (length (xs ++ x ∷ ys))) ≡ (a + length xs) ∷ []
  one_passes p f a [] x ys l before here after =
      let passes : p (f a) ≡ true = ap p l.0 ∙ here in
      let rest = filter (λ i. p (f i)) (range_with_len (a + 1) (length ys)) in
      ap (λ b. cond b (a ∷ rest) rest) passes ∙ ap (λ ns. a ∷ ns) (none_passes p f (a + 1) ys l.1 after) ∙ ap (λ n. n ∷ []) (sym (add-zero a))
  one_passes p f a (z ∷ xs) x ys l before here after =
      let fails : p (f a) ≡ false = ap p l.0 ∙ All-head (λ x. p x ≡ false) z xs before in
      let rest = filter (λ i. p (f i)) (range_with_len (a + 1) (length (xs ++ x ∷ ys))) in
      let e : (a + 1) + length xs ≡ a + suc (length xs) = omega arith in
      ap (λ b. cond b (a ∷ rest) rest) fails ∙ one_passes p f (a + 1) xs x ys l.1 (All-tail (λ x. p x ≡ false) z xs before) here after ∙ ap (λ n. n ∷ []) e

  -- ---- a part is no longer, and no more, than the whole

  pub filter_shorter : (p : X → Bool) (xs : List X) → length (filter p xs) ≤ length xs
  filter_shorter p [] = omega arith
  filter_shorter p (x ∷ xs) = by_test (p x) (filter p xs) (length xs) (filter_shorter p xs)
    where
      by_test : (b : Bool) (ys : List X) (n : ℕ) → length ys ≤ n → length (cond b (x ∷ ys) ys) ≤ suc n
      by_test true ys n le = omega arith
      by_test false ys n le = omega arith

  pub sum_by-filter-le : (f : X → ℕ) (p : X → Bool) (xs : List X) → sum_by f (filter p xs) ≤ sum_by f xs
  sum_by-filter-le f p [] = omega arith
  sum_by-filter-le f p (x ∷ xs) =
      let all = sum_by-cons f x xs in
      let rest = by_test (p x) (filter p xs) (sum_by f xs) (sum_by-filter-le f p xs) in
      omega (arith, all, rest)
    where
      by_test : (b : Bool) (ys : List X) (n : ℕ) → sum_by f ys ≤ n → sum_by f (cond b (x ∷ ys) ys) ≤ f x + n
      by_test true ys n le = let e = sum_by-cons f x ys in omega (arith, e, le)
      by_test false ys n le = omega (arith, le)
