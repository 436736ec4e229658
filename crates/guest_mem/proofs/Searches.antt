-- A search for the lowest address that passes a test, one address after another.
use Rattle.std.proofs.Common.{◌≡◌, ◌⊎◌, inl, inr, ℕ, zero, suc, ◌+◌, ◌-◌, ◌<◌, ◌≤◌, Bool, true, false, cond, Option, Some, None, refl, ap, sym, ◌∙◌, arith, add-zero}
use Rattle.std.proofs.lemmas.Bool.{cases_lt}
use Rattle.guest_mem.specs.Accesses.{first_from}

-- the search goes on at the next address
pub first_from-more : (test : ℕ → Bool) (a i count : ℕ) (r : Option ℕ) → i < count → first_from test a (count - i) ≡ r → test a ≡ false → first_from test (a + 1) (count - (i + 1)) ≡ r
first_from-more test a i count r h e f =
    let left : count - i ≡ suc (count - (i + 1)) = omega arith in
    rw f at (rw left at e)

pub first_from-found : (test : ℕ → Bool) (a i count : ℕ) (r : Option ℕ) → i < count → first_from test a (count - i) ≡ r → test a ≡ true → Some a ≡ r
first_from-found test a i count r h e f =
    let left : count - i ≡ suc (count - (i + 1)) = omega arith in
    rw f at (rw left at e)

pub first_from-none : (test : ℕ → Bool) (a i count : ℕ) (r : Option ℕ) → count ≤ i → first_from test a (count - i) ≡ r → None ≡ r
first_from-none test a i count r h e =
    let left : count - i ≡ 0 = omega arith in
    rw left at e

pub ruleset searches = (first_from-more, first_from-found, first_from-none)

-- ---- what a search says

-- searches by tests that agree on the range
pub first_from-same : (p q : ℕ → Bool) (a count : ℕ) → ((i : ℕ) → i < count → q (a + i) ≡ p (a + i)) → first_from q a count ≡ first_from p a count
first_from-same p q a zero h = refl
first_from-same p q a (suc count) h =
    let here : q a ≡ p a = simp add-zero at (h 0 (omega arith)) in
    let later : first_from q (a + 1) count ≡ first_from p (a + 1) count = first_from-same p q (a + 1) count (λ i l. let e : a + 1 + i ≡ a + suc i = omega arith in rw e (h (suc i) (omega arith))) in
    rw (here, later) refl

none_more : (test : ℕ → Bool) (a count k : ℕ) (b : Bool) → test a ≡ b → cond b (Some a) (first_from test (a + 1) count) ≡ None
    → (first_from test (a + 1) count ≡ None → a + 1 ≤ k → test k ≡ false) → (a ≡ k) ⊎ (a + 1 ≤ k) → test k ≡ false
none_more test a count k true e h more l = cc
none_more test a count k false e h more (inl here) = ap test (sym here) ∙ e
none_more test a count k false e h more (inr later) = more h later

here_or_later : (a k : ℕ) → a ≤ k → (a ≡ k) ⊎ (a + 1 ≤ k)
here_or_later a k l = elim (cases_lt a k) as (λ _. (a ≡ k) ⊎ (a + 1 ≤ k)) [ inl lt ↦ inr (omega arith) | inr ge ↦ inl (omega arith) ]

-- where nothing is found, no address passes
pub first_from-none_at : (test : ℕ → Bool) (a count k : ℕ) → first_from test a count ≡ None → a ≤ k → k < a + count → test k ≡ false
first_from-none_at test a zero k h l m = absurd (omega arith)
first_from-none_at test a (suc count) k h l m =
    none_more test a count k (test a) refl h (λ h' l'. first_from-none_at test (a + 1) count k h' l' (omega arith)) (here_or_later a k l)
