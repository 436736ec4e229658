-- Lists of new modules, and others.
use Rattle.std.proofs.Common.{◌≡◌, ℕ, ◌+◌, ◌<◌, List, [], ◌∷◌, ◌++◌, Some, length, get_or, take, sym, subst, ap, ◌∙◌, arith}
use Rattle.std.specs.Prelude.{◌≢◌, All, AllPairs, Contains, slice_get}
use Rattle.std.specs.List.{AllZip}
use Rattle.std.proofs.lemmas.List.{get_or-take, get_or_default, length-take-le, take_more}
use Rattle.std.proofs.lemmas.List.Elements.{All-cons, All-head, All-nil, All-tail, Contains-get_or}
use Rattle.std.proofs.lemmas.List.Kept.{AllPairs-cons}
use Rattle.std.proofs.lemmas.Option.{get_or_from_slice_get, slice_get_within}
use Rattle.load_model.specs.declared.module.Joining.{Joining}
use Rattle.load_laws.specs.parts.Premises.{HaveOwnNumbers}

module _ {X : Type 0} where
  -- an earlier element and this one
  pub pairs_before : (R : X → X → Type 0) (xs : List X) (i : ℕ) (d x : X) → AllPairs R xs → i < length xs → Contains (take i xs) x → R x (get_or xs i d)
  pairs_before R xs i d x all l listed =
      let long : length (take i xs) ≡ i = length-take-le i xs (omega arith) in
      let before : listed.0 < i = omega (arith, long, listed.1) in
      let there : get_or xs listed.0 x ≡ x = sym (get_or-take i xs listed.0 x before) ∙ listed.2 in
      let here : get_or xs i x ≡ get_or xs i d = get_or_default xs i x d l in
      subst (λ (y : X). R x y) here (subst (λ (y : X). R y (get_or xs i x)) there (all listed.0 i x before l))

  pub all_before : (R : X → X → Type 0) (xs : List X) (i : ℕ) (y : X) → AllPairs R xs → slice_get xs i ≡ Some y → All (λ x. R x y) (take i xs)
  all_before R xs i y all at = λ k e l.
      subst (λ (z : X). R (get_or (take i xs) k e) z) (get_or_from_slice_get xs i y y at)
      (pairs_before R xs i y (get_or (take i xs) k e) all (slice_get_within xs i y at) (Contains-get_or (take i xs) k e l))

  -- the elements up to this one
  pub take_this : (xs : List X) (i : ℕ) (x : X) → slice_get xs i ≡ Some x → take (i + 1) xs ≡ take i xs ++ x ∷ []
  take_this xs i x at = take_more xs i x (slice_get_within xs i x at) ∙ ap (λ (y : X). take i xs ++ y ∷ []) (get_or_from_slice_get xs i x x at)

module _ {A B : Type 0} where
  -- what holds of two lists gives more, where something holds of each of the first
  pub zip_weaker : (P : A → Type 0) (R S : A → B → Type 0) → ((x : A) (y : B) → P x → R x y → S x y) → (xs : List A) (ys : List B) → All P xs → AllZip R xs ys → AllZip S xs ys
  zip_weaker P R S more [] [] each all = tt
  zip_weaker P R S more [] (b ∷ ys) each all = absurd all
  zip_weaker P R S more (a ∷ xs) [] each all = absurd all
  zip_weaker P R S more (a ∷ xs) (b ∷ ys) each all = (more a b (All-head P a xs each) all.0, zip_weaker P R S more xs ys (All-tail P a xs each) all.1)

  pub zip_each : (P : A → Type 0) (R : A → B → Type 0) → ((x : A) (y : B) → R x y → P x) → (xs : List A) (ys : List B) → AllZip R xs ys → All P xs
  zip_each P R gives [] ys all = All-nil P
  zip_each P R gives (a ∷ xs) [] all = absurd all
  zip_each P R gives (a ∷ xs) (b ∷ ys) all = All-cons P a xs (gives a b all.0) (zip_each P R gives xs ys all.1)

-- no two numbers are the same
pub own_pairs : (joining : List Joining) → HaveOwnNumbers joining → AllPairs (λ (x y : Joining). y.number ≢ x.number) joining
own_pairs [] own = λ i j d lt l. absurd (omega arith)
own_pairs (j ∷ joining) own = AllPairs-cons (λ (x y : Joining). y.number ≢ x.number) j joining own.0 (own_pairs joining own.1)
