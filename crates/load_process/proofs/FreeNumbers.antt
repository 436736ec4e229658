-- Free numbers, one by one.
use Rattle.fd_base.proofs.Lists.{range_more}
use Rattle.std.proofs.Common.{◌≡◌, ℕ, ◌+◌, Bool, true, false, not, cond, List, [], ◌∷◌, ◌++◌, refl, sym, ap, ◌∙◌}
use Rattle.std.specs.Prelude.{filter}
use Rattle.std.specs.List.{range_with_len}
use Rattle.std.proofs.lemmas.List.Elements.{filter-append}

turned : (b : Bool) (k : ℕ) → cond b [] (k ∷ []) ≡ cond (not b) (k ∷ []) []
turned true k = refl
turned false k = refl

pub free_more : (live : ℕ → Bool) (k : ℕ) (before after : List ℕ) → before ≡ filter (λ m. not (live m)) (range_with_len 0 k) → after ≡ before ++ cond (live k) [] (k ∷ [])
    → after ≡ filter (λ m. not (live m)) (range_with_len 0 (k + 1))
free_more live k before after was step =
    step ∙ ap (λ l. l ++ cond (live k) [] (k ∷ [])) was ∙ ap (λ l. filter (λ m. not (live m)) (range_with_len 0 k) ++ l) (turned (live k) k)
    ∙ sym (filter-append (λ m. not (live m)) (range_with_len 0 k) (k ∷ [])) ∙ ap (filter (λ m. not (live m))) (sym (range_more k))
