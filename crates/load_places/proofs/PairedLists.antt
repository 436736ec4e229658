-- Lists that go together.
use Rattle.std.proofs.Common.{suc, inl, inr, List, [], ◌∷◌, subst, arith, All}
use Rattle.std.specs.Prelude.{AllPairs, Contains}
use Rattle.std.specs.List.{AllZip, zip}
use Rattle.std.proofs.lemmas.List.Elements.{All-nil, All-cons, All-head, All-tail}
use Rattle.std.proofs.lemmas.List.Kept.{AllPairs-cons}
use Rattle.fd_base.proofs.Members.{nothing_in, first_or_later}

module _ {A B : Type 0} where
  -- what holds of a list by the other
  pub second_each : (R : A → B → Type 0) (P : B → Type 0) → ((x : A) (y : B) → R x y → P y) → (xs : List A) (ys : List B) → AllZip R xs ys → All P ys
  second_each R P gives [] [] all = All-nil P
  second_each R P gives [] (y ∷ ys) all = absurd all
  second_each R P gives (x ∷ xs) [] all = absurd all
  second_each R P gives (x ∷ xs) (y ∷ ys) all = All-cons P y ys (gives x y all.0) (second_each R P gives xs ys all.1)

  pub zip_gives : (R S : A → B → Type 0) → ((x : A) (y : B) → R x y → S x y) → (xs : List A) (ys : List B) → AllZip R xs ys → AllZip S xs ys
  zip_gives R S gives [] [] all = tt
  zip_gives R S gives [] (y ∷ ys) all = absurd all
  zip_gives R S gives (x ∷ xs) [] all = absurd all
  zip_gives R S gives (x ∷ xs) (y ∷ ys) all = (gives x y all.0, zip_gives R S gives xs ys all.1)

  -- each pair has a value of the second list
  pub zip_seconds : (P : B → Type 0) (xs : List A) (ys : List B) → All P ys → All (λ (e : A × B). P e.1) (zip xs ys)
  zip_seconds P [] ys all = All-nil (λ (e : A × B). P e.1)
  zip_seconds P (x ∷ xs) [] all = All-nil (λ (e : A × B). P e.1)
  zip_seconds P (x ∷ xs) (y ∷ ys) all = All-cons (λ (e : A × B). P e.1) (x, y) (zip xs ys) (All-head P y ys all) (zip_seconds P xs ys (All-tail P y ys all))

  pub zip_pairs : (R : B → B → Type 0) (xs : List A) (ys : List B) → AllPairs R ys → AllPairs (λ (d e : A × B). R d.1 e.1) (zip xs ys)
  zip_pairs R [] ys pairs = λ i k d lt within. absurd (omega arith)
  zip_pairs R (x ∷ xs) [] pairs = λ i k d lt within. absurd (omega arith)
  zip_pairs R (x ∷ xs) (y ∷ ys) pairs =
      AllPairs-cons (λ (d e : A × B). R d.1 e.1) (x, y) (zip xs ys)
      (zip_seconds (R y) xs ys (λ k d lt. pairs 0 (suc k) d (omega arith) (omega arith)))
      (zip_pairs R xs ys (λ i k d lt within. pairs (suc i) (suc k) d (omega arith) (omega arith)))

  -- a member of a list with what goes together with it in two ways
  pub member_of_both : (R S : A → B → Type 0) (xs : List A) (ys : List B) (x : A) → AllZip R xs ys → AllZip S xs ys → Contains xs x → (y : B) × R x y × S x y
  member_of_both R S [] [] x r s there = absurd (nothing_in x there)
  member_of_both R S [] (b ∷ ys) x r s there = absurd r
  member_of_both R S (a ∷ xs) [] x r s there = absurd r
  member_of_both R S (a ∷ xs) (b ∷ ys) x r s there =
      elim (first_or_later a x xs there) [
        | inl is ↦ (b, subst (λ (z : A). R z b) is r.0, subst (λ (z : A). S z b) is s.0)
        | inr later ↦ member_of_both R S xs ys x r.1 s.1 later
      ]
