-- Pairs of the elements of joined and of sorted lists.
use Rattle.std.proofs.Common.{◌≡◌, ◌≢◌, refl, subst, ℕ, ◌+◌, ◌<◌, Bool, true, false, cond, List, [], ◌∷◌, ◌++◌, map, arith, All, AllPairs}
use Rattle.std.specs.Prelude.{flat_map, nat_le, Contains}
use Rattle.std.specs.List.{enumerate_from}
use Rattle.std.proofs.lemmas.List.Elements.{All-nil, All-cons, All-head, All-tail, All-append, All-contains}
use Rattle.std.proofs.lemmas.List.Kept.{AllPairs-cons}
use Rattle.fd_base.proofs.Lists.{pairs_head, pairs_tail, pairs_of_none}
use Rattle.fd_base.proofs.Members.{all_contained, contains_first, contains_later, in_flat_map, in_map}
use Rattle.elf_model.specs.declared.object.Rel.{Rel}
use Rattle.link_model.specs.DynamicRels.{put_by_site, by_site}

module _ {X : Type 0} (R : X → X → Type 0) where
  pub pairs_append : (xs ys : List X) → AllPairs R xs → AllPairs R ys → ((x y : X) → Contains xs x → Contains ys y → R x y) → AllPairs R (xs ++ ys)
  pairs_append [] ys p q cross = q
  pairs_append (x ∷ xs) ys p q cross =
      AllPairs-cons R x (xs ++ ys)
      (All-append (R x) xs ys (pairs_head R x xs p) (all_contained (R x) ys (λ y there. cross x y (contains_first x x xs refl) there)))
      (pairs_append xs ys (pairs_tail R x xs p) q (λ z y in' there. cross z y (contains_later x z xs in') there))

module _ {X Y : Type 0} (R : Y → Y → Type 0) (f : X → List Y) where
  -- of two different elements
  abbrev Cross : List X → Type 0
  Cross xs = (a b : X) → Contains xs a → Contains xs b → a ≢ b → (r q : Y) → Contains (f a) r → Contains (f b) q → R r q

  pub pairs_flat_map : (xs : List X) → AllPairs (λ a b. a ≢ b) xs → ((x : X) → Contains xs x → AllPairs R (f x)) → Cross xs → AllPairs R (flat_map f xs)
  pairs_flat_map [] once each cross = pairs_of_none R
  pairs_flat_map (x ∷ xs) once each cross =
      pairs_append R (f x) (flat_map f xs) (each x (contains_first x x xs refl))
      (pairs_flat_map xs (pairs_tail (λ a b. a ≢ b) x xs once) (λ y there. each y (contains_later x y xs there)) (λ a b in' there. cross a b (contains_later x a xs in') (contains_later x b xs there)))
      (λ r q one two. apart r q one (in_flat_map f xs q two))
    where
      apart : (r q : Y) → Contains (f x) r → (y : X) × Contains xs y × Contains (f y) q → R r q
      apart r q one from =
          cross x from.0 (contains_first x x xs refl) (contains_later x from.0 xs from.1) (All-contains (λ b. x ≢ b) xs from.0 (pairs_head (λ a b. a ≢ b) x xs once) from.1) r q one from.2

-- ---- numbered elements

module _ {X : Type 0} where
  above : (k n : ℕ) (xs : List X) → k < n → All (λ (e : ℕ × X). k ≢ e.0) (enumerate_from n xs)
  above k n [] lt = All-nil (λ (e : ℕ × X). k ≢ e.0)
  above k n (x ∷ xs) lt = All-cons (λ (e : ℕ × X). k ≢ e.0) (n, x) (enumerate_from (n + 1) xs) (λ e. absurd (omega (arith, e, lt))) (above k (n + 1) xs (omega (arith, lt)))

  pub pairs_numbered : (n : ℕ) (xs : List X) → AllPairs (λ a b. a.0 ≢ b.0) (enumerate_from n xs)
  pairs_numbered n [] = pairs_of_none (λ (a b : ℕ × X). a.0 ≢ b.0)
  pairs_numbered n (x ∷ xs) =
      AllPairs-cons (λ (a b : ℕ × X). a.0 ≢ b.0) (n, x) (enumerate_from (n + 1) xs) (above n (n + 1) xs (omega arith)) (pairs_numbered (n + 1) xs)

module _ {X Y : Type 0} where
  pub pairs_mapped : (P : X → X → Type 0) (R : Y → Y → Type 0) (f : X → Y) (xs : List X) → ((a b : X) → P a b → R (f a) (f b)) → AllPairs P xs → AllPairs R (map f xs)
  pairs_mapped P R f [] to p = pairs_of_none R
  pairs_mapped P R f (x ∷ xs) to p =
      AllPairs-cons R (f x) (map f xs) (all_contained (R (f x)) (map f xs) (λ y there. here y (in_map f xs y there))) (pairs_mapped P R f xs to (pairs_tail P x xs p))
    where
      here : (y : Y) → (z : X) × Contains xs z × (f z ≡ y) → R (f x) y
      here y from = subst (R (f x)) from.2 (to x from.0 (All-contains (P x) xs from.0 (pairs_head P x xs p) from.1))

-- ---- sorted by site

pub all_put : (P : Rel → Type 0) (r : Rel) (xs : List Rel) → P r → All P xs → All P (put_by_site r xs)
all_put P r [] here all = All-cons P r [] here all
all_put P r (x ∷ xs) here all = by (nat_le r.site x.site) (all_put P r xs here (All-tail P x xs all))
  where
    by : (b : Bool) → All P (put_by_site r xs) → All P (cond b (r ∷ x ∷ xs) (x ∷ put_by_site r xs))
    by true rest = All-cons P r (x ∷ xs) here all
    by false rest = All-cons P x (put_by_site r xs) (All-head P x xs all) rest

pub all_sorted : (P : Rel → Type 0) (xs : List Rel) → All P xs → All P (by_site xs)
all_sorted P [] all = all
all_sorted P (x ∷ xs) all = all_put P x (by_site xs) (All-head P x xs all) (all_sorted P xs (All-tail P x xs all))

module _ (R : Rel → Rel → Type 0) (turned : (r q : Rel) → R r q → R q r) where
  pairs_put : (r : Rel) (xs : List Rel) → All (R r) xs → AllPairs R xs → AllPairs R (put_by_site r xs)
  pairs_put r [] here p = AllPairs-cons R r [] here p
  pairs_put r (x ∷ xs) here p = by (nat_le r.site x.site) (pairs_put r xs (All-tail (R r) x xs here) (pairs_tail R x xs p))
    where
      by : (b : Bool) → AllPairs R (put_by_site r xs) → AllPairs R (cond b (r ∷ x ∷ xs) (x ∷ put_by_site r xs))
      by true rest = AllPairs-cons R r (x ∷ xs) here p
      by false rest = AllPairs-cons R x (put_by_site r xs) (all_put (R x) r xs (turned r x (All-head (R r) x xs here)) (pairs_head R x xs p)) rest

  pub pairs_sorted : (xs : List Rel) → AllPairs R xs → AllPairs R (by_site xs)
  pairs_sorted [] p = p
  pairs_sorted (x ∷ xs) p = pairs_put x (by_site xs) (all_sorted (R x) xs (pairs_head R x xs p)) (pairs_sorted xs (pairs_tail R x xs p))
