-- One more zero byte.
use Rattle.std.proofs.Common.{◌≡◌, ℕ, zero, suc, ◌+◌, List, [], ◌∷◌, ◌++◌, replicate, refl, ap, ◌∙◌, arith}

abbrev zeros : ℕ → List ℕ
zeros n = replicate n 0

pub zeros_more : (n : ℕ) → zeros n ++ 0 ∷ [] ≡ zeros (n + 1)
zeros_more n = let one : suc n ≡ n + 1 = omega arith in by_count n ∙ ap zeros one
  where
    by_count : (n : ℕ) → zeros n ++ 0 ∷ [] ≡ zeros (suc n)
    by_count zero = refl
    by_count (suc n) = ap (λ (bs : List ℕ). 0 ∷ bs) (by_count n)
