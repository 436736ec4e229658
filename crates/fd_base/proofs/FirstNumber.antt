-- The first number that passes a test.
use Rattle.fd_base.proofs.Options.{cond_none_parts}
use Rattle.std.proofs.Common.{◌≡◌, ℕ, zero, suc, ◌+◌, ◌<◌, Bool, true, false, Some, None, refl, sym, ap, ◌∙◌, arith, add-zero}
use Rattle.std.specs.Prelude.{find}
use Rattle.std.specs.List.{range_with_len}

none_more : (p : ℕ → Bool) (a k : ℕ) → find p (range_with_len a k) ≡ None → p (a + k) ≡ false → find p (range_with_len a (suc k)) ≡ None
none_more p a zero none fails = let here : p a ≡ false = ap p (sym (add-zero a)) ∙ fails in rw here refl
none_more p a (suc k) none fails =
    let parts = cond_none_parts (p a) a (find p (range_with_len (a + 1) k)) none in
    let same : a + 1 + k ≡ a + suc k = omega arith in
    rw parts.0 (none_more p (a + 1) k parts.1 (ap p same ∙ fails))

found : (p : ℕ → Bool) (a k n : ℕ) → find p (range_with_len a k) ≡ None → p (a + k) ≡ true → k < n → find p (range_with_len a n) ≡ Some (a + k)
found p a k zero none passes lt = absurd (omega arith)
found p a zero (suc n) none passes lt =
    let here : p a ≡ true = ap p (sym (add-zero a)) ∙ passes in
    rw here (ap Some (sym (add-zero a)))
found p a (suc k) (suc n) none passes lt =
    let parts = cond_none_parts (p a) a (find p (range_with_len (a + 1) k)) none in
    let same : a + 1 + k ≡ a + suc k = omega arith in
    rw parts.0 (found p (a + 1) k n parts.1 (ap p same ∙ passes) (omega arith) ∙ ap Some same)

-- the same from 0 on

pub none_next : (p : ℕ → Bool) (k : ℕ) → find p (range_with_len 0 k) ≡ None → p k ≡ false → find p (range_with_len 0 (suc k)) ≡ None
none_next p k none fails =
    let same : 0 + k ≡ k = omega arith in
    none_more p 0 k none (ap p same ∙ fails)

pub first_is : (p : ℕ → Bool) (k n : ℕ) → find p (range_with_len 0 k) ≡ None → p k ≡ true → k < n → find p (range_with_len 0 n) ≡ Some k
first_is p k n none passes lt =
    let same : 0 + k ≡ k = omega arith in
    found p 0 k n none (ap p same ∙ passes) lt ∙ ap Some same
