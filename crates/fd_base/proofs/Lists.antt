-- Lists by places: what stands at one, what holds of all, of each two, and of two lists side by side. More is
-- `Rattle.std.proofs.lemmas.List` and the modules below it.
use Rattle.std.proofs.Common.{◌≡◌, ◌≢◌, ℕ, zero, suc, ◌+◌, ◌<◌, ◌≤◌, inl, inr, List, [], ◌∷◌, ◌++◌, length, get_or, map, take, drop, All, Option, Some, None, refl, sym, ap, ◌∙◌, subst, arith, length-append}
use Rattle.std.specs.Prelude.{Contains, AllPairs, slice_get}
use Rattle.std.specs.List.{AllZip, flat_map, filter_map, cons_option, range_with_len}
use Rattle.std.proofs.lemmas.Bool.{cases_lt}
use Rattle.std.proofs.lemmas.List.{get_or_default, get_or-take, get_or-map, length-map, length-take, get_or_append_left, get_or-append-add, map-id}
use Rattle.std.proofs.lemmas.List.Elements.{All-head, All-tail, All-cons}
use Rattle.std.proofs.lemmas.List.FromFn.{map-range_with_len_more, length-range_with_len, get_or-range_with_len}
use Rattle.std.proofs.lemmas.List.Kept.{AllPairs-cons}
use Rattle.std.proofs.lemmas.Option.{slice_get_within, get_or_from_slice_get, slice_get-get_or}
use Rattle.fd_base.proofs.Members.{all_contained, in_filter_map}

module _ {X : Type 0} where
  -- ---- at a place

  pub none_at : (xs : List X) (k : ℕ) → slice_get xs k ≡ None → length xs ≤ k
  none_at [] k is = omega arith
  none_at (y ∷ xs) zero is = absurd cc
  none_at (y ∷ xs) (suc k) is = omega (arith, none_at xs k is)

  pub front_at : (xs ys : List X) (k : ℕ) (x : X) → slice_get xs k ≡ Some x → slice_get (xs ++ ys) k ≡ Some x
  front_at [] ys k x is = absurd cc
  front_at (z ∷ xs) ys zero x is = is
  front_at (z ∷ xs) ys (suc k) x is = front_at xs ys k x is

  pub drop_at_some : (xs : List X) (k : ℕ) (x : X) → slice_get xs k ≡ Some x → drop k xs ≡ x ∷ drop (suc k) xs
  drop_at_some [] k x is = absurd cc
  drop_at_some (y ∷ xs) zero x is = let same : y ≡ x = cc in ap (λ z. z ∷ xs) same
  drop_at_some (y ∷ xs) (suc k) x is = drop_at_some xs k x is

  pub take-slice_get : (n k : ℕ) (xs : List X) → k < n → slice_get (take n xs) k ≡ slice_get xs k
  take-slice_get zero k xs lt = absurd (omega arith)
  take-slice_get (suc n) k [] lt = refl
  take-slice_get (suc n) zero (x ∷ xs) lt = refl
  take-slice_get (suc n) (suc k) (x ∷ xs) lt = take-slice_get n k xs (omega arith)

  -- ---- what holds of all

  pub all_at : (P : X → Type 0) (xs : List X) (k : ℕ) (x : X) → All P xs → slice_get xs k ≡ Some x → P x
  all_at P xs k x all is = subst P (get_or_from_slice_get xs k x x is) (all k x (slice_get_within xs k x is))

  pub all_from : (P : X → Type 0) (xs : List X) → ((k : ℕ) (x : X) → slice_get xs k ≡ Some x → P x) → All P xs
  all_from P xs each = λ k d lt. each k (get_or xs k d) (slice_get-get_or xs k d lt)

  pub all_front : (P : X → Type 0) (xs ys : List X) → All P (xs ++ ys) → All P xs
  all_front P xs ys all = λ k d lt. subst P (get_or_append_left xs ys d k lt) (all k d (omega (arith, length-append xs ys)))

  pub all_back : (P : X → Type 0) (xs ys : List X) → All P (xs ++ ys) → All P ys
  all_back P xs ys all = λ k d lt. subst P (get_or-append-add xs ys k d) (all (length xs + k) d (omega (arith, length-append xs ys)))

  -- ---- what holds of each two

  pub pairs_at : (R : X → X → Type 0) (xs : List X) (i j : ℕ) (x y : X) → AllPairs R xs → i < j → slice_get xs i ≡ Some x → slice_get xs j ≡ Some y → R x y
  pairs_at R xs i j x y all lt p q =
      subst (λ z. R z y) (get_or_from_slice_get xs i x x p) (subst (R (get_or xs i x)) (get_or_from_slice_get xs j y x q) (all i j x lt (slice_get_within xs j y q)))

  pub pairs_head : (R : X → X → Type 0) (x : X) (xs : List X) → AllPairs R (x ∷ xs) → All (R x) xs
  pairs_head R x xs all = λ i d lt. all zero (suc i) d (omega arith) (omega arith)

  pub pairs_tail : (R : X → X → Type 0) (x : X) (xs : List X) → AllPairs R (x ∷ xs) → AllPairs R xs
  pairs_tail R x xs all = λ i j d lt within. all (suc i) (suc j) d (omega arith) (omega arith)

  pub pairs_front : (R : X → X → Type 0) (xs ys : List X) → AllPairs R (xs ++ ys) → AllPairs R xs
  pairs_front R xs ys all = λ i j d lt within.
      let near : get_or (xs ++ ys) i d ≡ get_or xs i d = get_or_append_left xs ys d i (omega arith) in
      let far : get_or (xs ++ ys) j d ≡ get_or xs j d = get_or_append_left xs ys d j within in
      subst (λ x. R x (get_or xs j d)) near (subst (R (get_or (xs ++ ys) i d)) far (all i j d lt (omega (arith, length-append xs ys))))

  pub pairs_back : (R : X → X → Type 0) (xs ys : List X) → AllPairs R (xs ++ ys) → AllPairs R ys
  pairs_back R xs ys all = λ i j d lt within.
      subst (λ x. R x (get_or ys j d)) (get_or-append-add xs ys i d)
      (subst (R (get_or (xs ++ ys) (length xs + i) d)) (get_or-append-add xs ys j d) (all (length xs + i) (length xs + j) d (omega arith) (omega (arith, length-append xs ys))))

  pub pairs_of_none : (R : X → X → Type 0) → AllPairs R []
  pairs_of_none R i j d lt within = absurd (omega arith)

  pub pairs_of_one : (R : X → X → Type 0) (x : X) → AllPairs R (x ∷ [])
  pairs_of_one R x i j d lt within = absurd (omega arith)

  pub pairs-take : (R : X → X → Type 0) (n : ℕ) (xs : List X) → AllPairs R xs → AllPairs R (take n xs)
  pairs-take R n xs all i j d lt within =
      let len = length-take n xs in
      let far : j < n = omega arith in
      let near : i < n = omega arith in
      rw (get_or-take n xs i d near, get_or-take n xs j d far) (all i j d lt (omega arith))

-- ---- maps

module _ {X Y : Type 0} where
  pub all_unmapped : (P : Y → Type 0) (f : X → Y) (xs : List X) → All P (map f xs) → All (λ x. P (f x)) xs
  all_unmapped P f [] all = λ k d lt. absurd (omega arith)
  all_unmapped P f (x ∷ xs) all = All-cons (λ x. P (f x)) x xs (All-head P (f x) (map f xs) all) (all_unmapped P f xs (All-tail P (f x) (map f xs) all))

  pub pairs_unmapped : (R : Y → Y → Type 0) (f : X → Y) (xs : List X) → AllPairs R (map f xs) → AllPairs (λ x y. R (f x) (f y)) xs
  pairs_unmapped R f xs all i j d lt within =
      let len = length-map xs f in
      let pair : R (get_or (map f xs) i (f d)) (get_or (map f xs) j (f d)) = all i j (f d) lt (omega arith) in
      let near : i < length xs = omega arith in
      rw (get_or-map f xs i d (f d) near, get_or-map f xs j d (f d) within) at pair

  pub map_agree : (f g : X → Y) (xs : List X) → All (λ x. f x ≡ g x) xs → map f xs ≡ map g xs
  map_agree f g [] all = refl
  map_agree f g (x ∷ xs) all =
      ap (λ y. y ∷ map f xs) (All-head (λ y. f y ≡ g y) x xs all) ∙ ap (λ ys. g x ∷ ys) (map_agree f g xs (All-tail (λ y. f y ≡ g y) x xs all))

  pub flat_map_agree : (f g : X → List Y) (xs : List X) → All (λ x. f x ≡ g x) xs → flat_map f xs ≡ flat_map g xs
  flat_map_agree f g [] all = refl
  flat_map_agree f g (x ∷ xs) all =
      ap (λ ys. ys ++ flat_map f xs) (All-head (λ y. f y ≡ g y) x xs all) ∙ ap (λ ys. g x ++ ys) (flat_map_agree f g xs (All-tail (λ y. f y ≡ g y) x xs all))

  -- members that differ in one thing, and agree in it, are one
  pub one_of : (f : X → Y) (xs : List X) (x y : X) → AllPairs (λ a b. f a ≢ f b) xs → Contains xs x → Contains xs y → f x ≡ f y → x ≡ y
  one_of f xs x y apart cx cy e =
      elim (cases_lt cx.0 cy.0) [
        | inl before ↦ absurd (apart cx.0 cy.0 x before cy.1 (ap f cx.2 ∙ e ∙ sym (ap f (get_or_default xs cy.0 x y cy.1 ∙ cy.2))))
        | inr late ↦ elim (cases_lt cy.0 cx.0) [
          | inl after ↦ absurd (apart cy.0 cx.0 y after cx.1 (ap f cy.2 ∙ sym e ∙ sym (ap f (get_or_default xs cx.0 y x cx.1 ∙ cx.2))))
          | inr early ↦ let same : cx.0 ≡ cy.0 = omega arith in sym cx.2 ∙ ap (λ k. get_or xs k x) same ∙ get_or_default xs cy.0 x y cy.1 ∙ cy.2
        ]
      ]

  -- what different members give is different
  pub once-filter_map : (f : X → Option Y) (xs : List X) → ((a b : X) (y : Y) → f a ≡ Some y → f b ≡ Some y → a ≡ b) → AllPairs (λ a b. a ≢ b) xs → AllPairs (λ a b. a ≢ b) (filter_map f xs)
  once-filter_map f [] one once = pairs_of_none (λ a b. a ≢ b)
  once-filter_map f (x ∷ xs) one once =
      let rest : AllPairs (λ a b. a ≢ b) (filter_map f xs) = once-filter_map f xs one (λ i j d lt within. once (suc i) (suc j) d (omega arith) (omega arith)) in
      elim (f x) as (λ o. f x ≡ o → AllPairs (λ a b. a ≢ b) (cons_option o (filter_map f xs))) [
        | None ↦ λ e. rest
        | Some y ↦ λ e. AllPairs-cons (λ a b. a ≢ b) y (filter_map f xs) (all_contained (λ z. y ≢ z) (filter_map f xs) (λ z c same. other y z e c same)) rest
      ] refl
    where
      other : (y z : Y) → f x ≡ Some y → Contains (filter_map f xs) z → y ≡ z → ⊥
      other y z e c same =
          let from = in_filter_map f xs z c in
          let is : x ≡ from.0 = one x from.0 z (e ∙ ap Some same) from.2 in
          once zero (suc from.1.0) from.0 (omega arith) (omega (arith, from.1.1)) (is ∙ sym from.1.2)

-- ---- two lists side by side

module _ {X Y : Type 0} where
  pub zip_push : (R : X → Y → Type 0) (xs : List X) (ys : List Y) (x : X) (y : Y) → AllZip R xs ys → R x y → AllZip R (xs ++ x ∷ []) (ys ++ y ∷ [])
  zip_push R [] [] x y all r = (r, tt)
  zip_push R [] (b ∷ ys) x y all r = absurd all
  zip_push R (a ∷ xs) [] x y all r = absurd all
  zip_push R (a ∷ xs) (b ∷ ys) x y all r = (all.0, zip_push R xs ys x y all.1 r)

  pub zip_length : (R : X → Y → Type 0) (xs : List X) (ys : List Y) → AllZip R xs ys → length ys ≡ length xs
  zip_length R [] [] all = refl
  zip_length R [] (y ∷ ys) all = absurd all
  zip_length R (x ∷ xs) [] all = absurd all
  zip_length R (x ∷ xs) (y ∷ ys) all = omega (arith, zip_length R xs ys all.1)

  -- at the place of one of the left list, or of the right one
  pub zip_at : (R : X → Y → Type 0) (xs : List X) (ys : List Y) (k : ℕ) (x : X) → AllZip R xs ys → slice_get xs k ≡ Some x → (y : Y) × (slice_get ys k ≡ Some y) × R x y
  zip_at R [] ys k x all is = absurd cc
  zip_at R (z ∷ xs) [] k x all is = absurd all
  zip_at R (z ∷ xs) (y ∷ ys) zero x all is = let same : z ≡ x = cc in (y, refl, subst (λ (w : X). R w y) same all.0)
  zip_at R (z ∷ xs) (y ∷ ys) (suc k) x all is = zip_at R xs ys k x all.1 is

  pub zip_at_right : (R : X → Y → Type 0) (xs : List X) (ys : List Y) (k : ℕ) (y : Y) → AllZip R xs ys → slice_get ys k ≡ Some y → (x : X) × (slice_get xs k ≡ Some x) × R x y
  zip_at_right R xs [] k y all is = absurd cc
  zip_at_right R [] (z ∷ ys) k y all is = absurd all
  zip_at_right R (x ∷ xs) (z ∷ ys) zero y all is = let same : z ≡ y = cc in (x, refl, subst (λ (w : Y). R x w) same all.0)
  zip_at_right R (x ∷ xs) (z ∷ ys) (suc k) y all is = zip_at_right R xs ys k y all.1 is

  pub zip-get_or : (R : X → Y → Type 0) (xs : List X) (ys : List Y) (k : ℕ) (d : X) (e : Y) → AllZip R xs ys → k < length xs → R (get_or xs k d) (get_or ys k e)
  zip-get_or R [] ys k d e all lt = absurd (omega arith)
  zip-get_or R (x ∷ xs) [] k d e all lt = absurd all
  zip-get_or R (x ∷ xs) (y ∷ ys) zero d e all lt = all.0
  zip-get_or R (x ∷ xs) (y ∷ ys) (suc k) d e all lt = let within : k < length xs = omega arith in zip-get_or R xs ys k d e all.1 within

-- ---- numbers in order

pub range_more : (k : ℕ) → range_with_len 0 (k + 1) ≡ range_with_len 0 k ++ k ∷ []
range_more k =
    sym (map-id (range_with_len 0 (k + 1))) ∙ map-range_with_len_more (λ n. n) 0 k k (omega arith) ∙ ap (λ ns. ns ++ k ∷ []) (map-id (range_with_len 0 k))

pub range_rising : (n : ℕ) → AllPairs (λ a b. a < b) (range_with_len 0 n)
range_rising n i j d lt within =
    let len = length-range_with_len 0 n in
    let low = get_or-range_with_len 0 n i d (omega arith) in
    let high = get_or-range_with_len 0 n j d (omega arith) in
    omega arith

pub range_below : (n : ℕ) → All (λ a. a < n) (range_with_len 0 n)
range_below n k d lt =
    let len = length-range_with_len 0 n in
    let at = get_or-range_with_len 0 n k d (omega arith) in
    omega arith
