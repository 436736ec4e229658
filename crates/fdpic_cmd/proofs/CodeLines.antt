-- The lines of words, one after the other.
use Rattle.fd_base.proofs.Lists.{range_more}
use Rattle.std.proofs.Common.{◌≡◌, ℕ, ◌+◌, List, [], ◌∷◌, ◌++◌, refl, sym, ap, ◌∙◌, append-nil, append_assoc}
use Rattle.std.specs.List.{flat_map, range_with_len}
use Rattle.std.proofs.lemmas.Grind.{flat_map-append}
use Rattle.std.specs.Prelude.{map}

map_same : (xs : List ℕ) → map (λ k. k) xs ≡ xs
map_same [] = refl
map_same (x ∷ xs) = ap (λ ys. x ∷ ys) (map_same xs)

-- one more line
pub lines_more : (line : ℕ → List ℕ) (k : ℕ) → flat_map line (range_with_len 0 (k + 1)) ≡ flat_map line (range_with_len 0 k) ++ line k
lines_more line k =
    ap (flat_map line) (range_more k) ∙ flat_map-append line (range_with_len 0 k) (k ∷ []) ∙ ap (λ t. flat_map line (range_with_len 0 k) ++ t) (append-nil (line k))

pub put_more : (line : ℕ → List ℕ) (k : ℕ) (before out old : List ℕ) → before ≡ old ++ flat_map line (range_with_len 0 k) → out ≡ before ++ line k
    → out ≡ old ++ flat_map line (range_with_len 0 (k + 1))
put_more line k before out old so_far put =
    put ∙ ap (λ t. t ++ line k) so_far ∙ append_assoc old (flat_map line (range_with_len 0 k)) (line k) ∙ sym (ap (λ t. old ++ t) (lines_more line k))
