-- The first of some numbers that passes a test.
use Rattle.fd_base.proofs.Options.{cond_none_parts}
use Rattle.std.proofs.Common.{◌≡◌, ℕ, zero, suc, ◌+◌, ◌<◌, Bool, true, false, cond, List, [], ◌∷◌, Option, Some, None, refl, sym, ap, ◌∙◌, arith, add-zero}
use Rattle.std.specs.Prelude.{find, map}
use Rattle.std.specs.List.{range_with_len}

module _ (p : ℕ → Bool) (f : ℕ → ℕ) where
  -- the first of f a to f (a + k - 1)
  abbrev among : ℕ → ℕ → Option ℕ
  among a k = find p (map f (range_with_len a k))

  none_more : (a k : ℕ) → among a k ≡ None → p (f (a + k)) ≡ false → among a (suc k) ≡ None
  none_more a zero none fails = let here : p (f a) ≡ false = ap (λ i. p (f i)) (sym (add-zero a)) ∙ fails in rw here refl
  none_more a (suc k) none fails =
      let parts = cond_none_parts (p (f a)) (f a) (among (a + 1) k) none in
      let same : a + 1 + k ≡ a + suc k = omega arith in
      rw parts.0 (none_more (a + 1) k parts.1 (ap (λ i. p (f i)) same ∙ fails))

  found : (a k n : ℕ) → among a k ≡ None → p (f (a + k)) ≡ true → k < n → among a n ≡ Some (f (a + k))
  found a k zero none passes lt = absurd (omega arith)
  found a zero (suc n) none passes lt =
      let here : p (f a) ≡ true = ap (λ i. p (f i)) (sym (add-zero a)) ∙ passes in
      rw here (ap (λ i. Some (f i)) (sym (add-zero a)))
  found a (suc k) (suc n) none passes lt =
      let parts = cond_none_parts (p (f a)) (f a) (among (a + 1) k) none in
      let same : a + 1 + k ≡ a + suc k = omega arith in
      rw parts.0 (found (a + 1) k n parts.1 (ap (λ i. p (f i)) same ∙ passes) (omega arith) ∙ ap (λ i. Some (f i)) same)

  -- the same from 0 on

  pub none_next : (k : ℕ) → among 0 k ≡ None → p (f k) ≡ false → among 0 (suc k) ≡ None
  none_next k none fails = let same : 0 + k ≡ k = omega arith in none_more 0 k none (ap (λ i. p (f i)) same ∙ fails)

  pub first_is : (k n : ℕ) → among 0 k ≡ None → p (f k) ≡ true → k < n → among 0 n ≡ Some (f k)
  first_is k n none passes lt = let same : 0 + k ≡ k = omega arith in found 0 k n none (ap (λ i. p (f i)) same ∙ passes) lt ∙ ap (λ i. Some (f i)) same

  -- what is found passes
  passes_one : (b : Bool) (x : ℕ) (rest : Option ℕ) (y : ℕ) → b ≡ p x → ((z : ℕ) → rest ≡ Some z → p z ≡ true) → cond b (Some x) rest ≡ Some y → p y ≡ true
  passes_one true x rest y e h is = let same : x ≡ y = cc in ap p (sym same) ∙ sym e
  passes_one false x rest y e h is = h y is

pub passes : (p : ℕ → Bool) (xs : List ℕ) (y : ℕ) → find p xs ≡ Some y → p y ≡ true
passes p [] y is = absurd cc
passes p (x ∷ xs) y is = passes_one p (λ i. i) (p x) x (find p xs) y refl (passes p xs) is
