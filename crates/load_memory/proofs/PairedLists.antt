-- Lists that go together, place by place.
use Rattle.std.proofs.Common.{◌≡◌, ℕ, zero, suc, List, [], ◌∷◌, Some, length, refl, subst, arith}
use Rattle.std.specs.Prelude.{slice_get}
use Rattle.std.specs.List.{AllZip}

module _ {A B : Type 0} (R : A → B → Type 0) where
  -- what holds of two lists holds at each place
  pub zip_at : (xs : List A) (ys : List B) (k : ℕ) (x : A) (y : B) → AllZip R xs ys → slice_get xs k ≡ Some x → slice_get ys k ≡ Some y → R x y
  zip_at [] [] k x y h p q = cc
  zip_at [] (b ∷ ys) k x y h p q = absurd h
  zip_at (a ∷ xs) [] k x y h p q = absurd h
  zip_at (a ∷ xs) (b ∷ ys) zero x y h p q =
      let first : a ≡ x = cc in
      let second : b ≡ y = cc in
      subst (R x) second (subst (λ z. R z b) first h.0)
  zip_at (a ∷ xs) (b ∷ ys) (suc k) x y h p q = zip_at xs ys k x y h.1 p q

  -- each element of one list has one of the other
  pub zip_right : (xs : List A) (ys : List B) (k : ℕ) (y : B) → AllZip R xs ys → slice_get ys k ≡ Some y → (x : A) × (slice_get xs k ≡ Some x)
  zip_right [] [] k y h p = cc
  zip_right [] (b ∷ ys) k y h p = absurd h
  zip_right (a ∷ xs) [] k y h p = absurd h
  zip_right (a ∷ xs) (b ∷ ys) zero y h p = (a, refl)
  zip_right (a ∷ xs) (b ∷ ys) (suc k) y h p = zip_right xs ys k y h.1 p

  pub zip_from : (xs : List A) (ys : List B) → length ys ≡ length xs → ((k : ℕ) (x : A) (y : B) → slice_get xs k ≡ Some x → slice_get ys k ≡ Some y → R x y) → AllZip R xs ys
  zip_from [] [] l h = tt
  zip_from [] (b ∷ ys) l h = absurd (omega arith)
  zip_from (a ∷ xs) [] l h = absurd (omega arith)
  zip_from (a ∷ xs) (b ∷ ys) l h = (h zero a b refl refl, zip_from xs ys (omega arith) (λ k x y p q. h (suc k) x y p q))
