-- The registers of a list, one after another.
use Rattle.std.proofs.Common.{◌≡◌, ℕ, zero, suc, ◌+◌, ◌*◌, ◌/◌, ◌%◌, ◌^◌, ◌<◌, Bool, true, false, cond, List, [], ◌∷◌, ◌++◌, take, set, get_or, length, sym, ap, ◌∙◌, arith, append-nil}
use Rattle.std.specs.List.{filter, range_with_len}
use Rattle.std.proofs.lemmas.List.{take_more_set}
use Rattle.std.proofs.lemmas.List.Elements.{filter-append}
use Rattle.std.proofs.lemmas.Nat.{mod-pow-add}
use Rattle.fd_base.proofs.Lists.{range_more}
use Rattle.a32_isa.specs.Registers.{is_listed}

-- the registers below the next one
filter-more : (test : ℕ → Bool) (k : ℕ) → filter test (range_with_len 0 (k + 1)) ≡ filter test (range_with_len 0 k) ++ filter test (k ∷ [])
filter-more test k = ap (filter test) (range_more k) ∙ filter-append test (range_with_len 0 k) (k ∷ [])

pub listed_taken : (places : List ℕ) (list count k : ℕ) → count < length places → is_listed list k ≡ true → take count places ≡ filter (is_listed list) (range_with_len 0 k)
    → take (count + 1) (set places count k) ≡ filter (is_listed list) (range_with_len 0 (k + 1))
listed_taken places list count k l e h =
    take_more_set places count k l ∙ ap (λ ks. ks ++ k ∷ []) h
    ∙ sym (filter-more (is_listed list) k ∙ ap (λ b. filter (is_listed list) (range_with_len 0 k) ++ cond b (k ∷ []) []) e)

pub listed_skipped : (places : List ℕ) (list count k : ℕ) → is_listed list k ≡ false → take count places ≡ filter (is_listed list) (range_with_len 0 k)
    → take count places ≡ filter (is_listed list) (range_with_len 0 (k + 1))
listed_skipped places list count k e h =
    h ∙ sym (filter-more (is_listed list) k ∙ ap (λ b. filter (is_listed list) (range_with_len 0 k) ++ cond b (k ∷ []) []) e ∙ append-nil (filter (is_listed list) (range_with_len 0 k)))

-- a bit that isn't set adds nothing
pub clear_below : (list k : ℕ) → list / 2 ^ k % 2 ≡ 0 → list % 2 ^ k ≡ 0 → list % 2 ^ (k + 1) ≡ 0
clear_below list k e h =
    let turned : k + 1 ≡ 1 + k = omega arith in
    let split : list % 2 ^ (1 + k) ≡ (list / 2 ^ k % 2 ^ 1) * 2 ^ k + list % 2 ^ k = mod-pow-add list 1 k in
    ap (λ n. list % 2 ^ n) turned ∙ split ∙ ap (λ b. b * 2 ^ k + list % 2 ^ k) e ∙ omega (arith, h)

pub take_below : (places : List ℕ) (count n k : ℕ) → 0 < n → ((j : ℕ) → get_or places j 0 < n) → get_or (take count places) k 0 < n
take_below places zero n k p h = p
take_below [] (suc count) n k p h = p
take_below (x ∷ xs) (suc count) n zero p h = h zero
take_below (x ∷ xs) (suc count) n (suc k) p h = take_below xs count n k p (λ j. h (suc j))
