-- Lists of tests that all hold.
use Rattle.std.proofs.Common.{◌≡◌, ℕ, zero, suc, ◌+◌, ◌<◌, Bool, true, false, cond, List, [], ◌∷◌, ◌++◌, Option, Some, None, refl, ap, ◌∙◌, arith}
use Rattle.std.specs.Prelude.{slice_get}
use Rattle.elf_model.specs.Test.{Test, first_failing, each_below, each_from, of_some, only_where}
use Rattle.elf_model.proofs.Tests.{passed_over}

-- one test more
pub passes : {R : Type 0} (t : Test R) (ts : List (Test R)) → t.fails ≡ false → first_failing ts ≡ None → first_failing (t ∷ ts) ≡ None
passes t ts holds rest = ap (λ b. cond b (Some t.refusal) (first_failing ts)) holds ∙ rest

pub both : {R : Type 0} (ts us : List (Test R)) → first_failing ts ≡ None → first_failing us ≡ None → first_failing (ts ++ us) ≡ None
both ts us first second = passed_over ts us first ∙ second

pub below_all : {R : Type 0} (tests : ℕ → List (Test R)) (n : ℕ) → ((i : ℕ) → i < n → first_failing (tests i) ≡ None) → first_failing (each_below n tests) ≡ None
unfolding each_below
below_all tests zero each = refl
below_all tests (suc n) each = both (each_below n tests) (tests n) (below_all tests n (λ i lt. each i (omega arith))) (each n (omega arith))

pub items_all : {R X : Type 0} (tests : ℕ → X → List (Test R)) (xs : List X) (k : ℕ) → ((i : ℕ) (x : X) → slice_get xs i ≡ Some x → first_failing (tests (k + i) x) ≡ None)
    → first_failing (each_from k tests xs) ≡ None
unfolding each_from
items_all tests [] k each = refl
items_all tests (x ∷ xs) k each =
    both (tests k x) (each_from (suc k) tests xs) (ap (λ n. first_failing (tests n x)) (omega arith) ∙ each 0 x refl)
    (items_all tests xs (suc k) (λ i y is. ap (λ n. first_failing (tests n y)) (omega arith) ∙ each (suc i) y is))

pub where_some : {R X : Type 0} (o : Option X) (tests : X → List (Test R)) → ((x : X) → o ≡ Some x → first_failing (tests x) ≡ None) → first_failing (of_some o tests) ≡ None
where_some None tests each = refl
where_some (Some x) tests each = each x refl

pub where_true : {R : Type 0} (b : Bool) (ts : List (Test R)) → (b ≡ true → first_failing ts ≡ None) → first_failing (only_where b ts) ≡ None
where_true true ts pass = pass refl
where_true false ts pass = refl
