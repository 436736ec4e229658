-- Two lists paired, which grow by one value a turn.
use Rattle.std.proofs.Common.{◌≡◌, ℕ, zero, suc, ◌+◌, ◌<◌, ◌≤◌, List, [], ◌∷◌, ◌++◌, length, get_or, take, slice_get, Option, Some, refl, ap, arith}
use Rattle.std.specs.List.{zip}

-- one more of each list
pub zip_more : {X Y : Type 0} (xs : List X) (ys : List Y) (i : ℕ) (d : X) (y : Y) → i < length xs → slice_get ys i ≡ Some y
    → zip (take (i + 1) xs) ys ≡ zip (take i xs) ys ++ (get_or xs i d, y) ∷ []
zip_more xs ys i d y lt at =
    let one : i + 1 ≡ suc i = omega arith in
    rw one (more xs ys i d y lt at)
  where
    unwrapped : {Z : Type 0} → Z → Option Z → Z
    unwrapped e (Some z) = z
    unwrapped e o = e

    more : {X Y : Type 0} (xs : List X) (ys : List Y) (i : ℕ) (d : X) (y : Y) → i < length xs → slice_get ys i ≡ Some y → zip (take (suc i) xs) ys ≡ zip (take i xs) ys ++ (get_or xs i d, y) ∷ []
    more [] ys i d y lt at = absurd (omega arith)
    more (x ∷ xs) [] i d y lt at = absurd cc
    more (x ∷ xs) (z ∷ ys) zero d y lt at =
        let same : z ≡ y = ap (unwrapped z) at in
        ap (λ e. (x, e) ∷ []) same
    more (x ∷ xs) (z ∷ ys) (suc i) d y lt at = ap (λ rest. (x, z) ∷ rest) (more xs ys i d y (omega arith) at)

-- what is paired with all of a list needs no more than it is long
pub zip_all : {X Y : Type 0} (xs : List X) (ys : List Y) (n : ℕ) → length ys ≤ n → zip (take n xs) ys ≡ zip xs ys
zip_all [] ys zero le = refl
zip_all [] ys (suc n) le = refl
zip_all (x ∷ xs) [] zero le = refl
zip_all (x ∷ xs) [] (suc n) le = refl
zip_all (x ∷ xs) (y ∷ ys) zero le = absurd (omega arith)
zip_all (x ∷ xs) (y ∷ ys) (suc n) le = ap (λ rest. (x, y) ∷ rest) (zip_all xs ys n (omega arith))
