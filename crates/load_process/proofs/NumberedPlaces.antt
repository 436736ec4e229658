-- Lists of places by number, in which nothing or something stands.
use Rattle.std.proofs.Common.{◌≡◌, ◌≢◌, ℕ, zero, suc, ◌<◌, Option, Some, None, List, [], ◌∷◌, length, set, replicate, refl, ap, arith}
use Rattle.std.specs.Prelude.{slice_get, option_and_then}

-- what stands at a number
abbrev pub at_place : {X : Type 0} → List (Option X) → ℕ → Option X
at_place places m = option_and_then (λ place. place) (slice_get places m)

pub at_place-none : {X : Type 0} (n m : ℕ) → at_place {X = X} (replicate n None) m ≡ None
at_place-none zero m = refl
at_place-none (suc n) zero = refl
at_place-none (suc n) (suc m) = at_place-none n m

pub at_place-set_same : {X : Type 0} (places : List (Option X)) (m : ℕ) (place : Option X) → m < length places → at_place (set places m place) m ≡ place
at_place-set_same [] m place lt = absurd (omega arith)
at_place-set_same (x ∷ places) zero place lt = refl
at_place-set_same (x ∷ places) (suc m) place lt = at_place-set_same places m place (omega arith)

pub at_place-set_other : {X : Type 0} (places : List (Option X)) (n m : ℕ) (place : Option X) → m ≢ n → at_place (set places n place) m ≡ at_place places m
at_place-set_other [] n m place apart = refl
at_place-set_other (x ∷ places) zero zero place apart = absurd (apart refl)
at_place-set_other (x ∷ places) zero (suc m) place apart = refl
at_place-set_other (x ∷ places) (suc n) zero place apart = refl
at_place-set_other (x ∷ places) (suc n) (suc m) place apart = at_place-set_other places n m place (λ e. apart (ap suc e))

-- what stands anywhere stands within the list
pub within_places : {X : Type 0} (places : List (Option X)) (m : ℕ) (x : X) → at_place places m ≡ Some x → m < length places
within_places [] m x e = cc
within_places (p ∷ places) zero x e = omega arith
within_places (p ∷ places) (suc m) x e = omega (arith, within_places places m x e)
