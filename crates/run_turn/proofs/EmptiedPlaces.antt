-- Places that are emptied one after another.
use Rattle.std.proofs.Common.{◌≡◌, ℕ, zero, suc, ◌+◌, ◌<◌, ◌≤◌, List, [], ◌∷◌, ◌++◌, Option, None, All, length, take, drop, refl, ap, sym, subst, ◌∙◌, arith, add-one}
use Rattle.std.specs.Prelude.{map, set}
use Rattle.std.proofs.lemmas.List.{drop_all, take_all}
use Rattle.std.proofs.lemmas.List.Elements.{All-cons, All-nil}
use Rattle.run_model.specs.declared.thread.Thread.{Thread}
use Rattle.run_turn.specs.parts.CallsInProgress.{AreInProgress}

abbrev pub emptied : List (Option Thread) → ℕ → List (Option Thread)
emptied xs n = map (λ place. None) (take n xs) ++ drop n xs

emptied_next : (xs : List (Option Thread)) (n : ℕ) → n < length xs → set (emptied xs n) n None ≡ emptied xs (suc n)
emptied_next [] n l = absurd (omega arith)
emptied_next (x ∷ xs) zero l = refl
emptied_next (x ∷ xs) (suc n) l = ap (λ ys. None ∷ ys) (emptied_next xs n (omega arith))

pub emptied_more : (xs ys : List (Option Thread)) (n : ℕ) → n < length xs → ys ≡ emptied xs n → set ys n None ≡ emptied xs (n + 1)
emptied_more xs ys n l e = ap (λ s. set s n None) e ∙ emptied_next xs n l ∙ ap (emptied xs) (sym (add-one n))

pub emptied_all : (xs : List (Option Thread)) (n : ℕ) → length xs ≤ n → emptied xs n ≡ map (λ place. None) xs
emptied_all [] n l = rw (take_all n [] l, drop_all n [] l) refl
emptied_all (x ∷ xs) zero l = absurd (omega arith)
emptied_all (x ∷ xs) (suc n) l = ap (λ ys. None ∷ ys) (emptied_all xs n (omega arith))

none_in_progress : (xs : List (Option Thread)) → All AreInProgress (map (λ place. None) xs)
none_in_progress [] = All-nil AreInProgress
none_in_progress (x ∷ xs) = All-cons AreInProgress None (map (λ place. None) xs) tt (none_in_progress xs)

pub emptied_in_progress : (xs ys : List (Option Thread)) (n : ℕ) → length xs ≤ n → ys ≡ emptied xs n → All AreInProgress ys
emptied_in_progress xs ys n l e = subst (All AreInProgress) (sym (e ∙ emptied_all xs n l)) (none_in_progress xs)
