-- New modules one after another, and what is made of each.
use Rattle.std.proofs.Common.{◌≡◌, ◌≢◌, ℕ, zero, suc, ◌+◌, ◌<◌, List, [], ◌∷◌, ◌++◌, length, length-drop, get_or, take, drop, map, sym, ap, subst, ◌∙◌, arith, All}
use Rattle.std.proofs.lemmas.List.{drop_more, length-map, map-append, take_more}
use Rattle.std.proofs.lemmas.List.Elements.{All-nil, All-cons}
use Rattle.load_model.specs.declared.module.Joining.{Joining}
use Rattle.load_model.specs.declared.module.SymbolicProcess.{SymbolicProcess}
use Rattle.load_laws.specs.parts.Premises.{HaveOwnNumbers, HasFreeNumber}

-- ---- the next module

-- the modules up to it, and those from it on
pub up_to_next : (joining : List Joining) (k : ℕ) (j : Joining) → k < length joining → j ≡ get_or joining k j → take (k + 1) joining ≡ take k joining ++ j ∷ []
up_to_next joining k j lt is = take_more joining k j lt ∙ ap (λ (x : Joining). take k joining ++ x ∷ []) (sym is)

pub from_next : (joining : List Joining) (k : ℕ) (j : Joining) → k < length joining → j ≡ get_or joining k j → drop k joining ≡ j ∷ drop (k + 1) joining
from_next joining k j lt is = drop_more joining k j lt ∙ ap (λ (x : Joining). x ∷ drop (k + 1) joining) (sym is)

own_before : (joining : List Joining) (k : ℕ) (d : Joining) → HaveOwnNumbers joining → k < length joining → All (λ i. i.number ≢ (get_or joining k d).number) (take k joining)
own_before [] k d own lt = absurd (omega arith)
own_before (j ∷ joining) zero d own lt = All-nil (λ (i : Joining). i.number ≢ j.number)
own_before (j ∷ joining) (suc k) d own lt =
    let here : j.number ≢ (get_or joining k d).number = λ is. own.0 k d (omega arith) (sym is) in
    All-cons (λ (i : Joining). i.number ≢ (get_or joining k d).number) j (take k joining) here (own_before joining k d own.1 (omega arith))

-- the numbers before it are others
pub earlier_apart : (joining : List Joining) (k : ℕ) (j : Joining) → HaveOwnNumbers joining → k < length joining → j ≡ get_or joining k j → All (λ i. i.number ≢ j.number) (take k joining)
earlier_apart joining k j own lt is = subst (λ (x : Joining). All (λ i. i.number ≢ x.number) (take k joining)) (sym is) (own_before joining k j own lt)

pub small_numbers : (p : SymbolicProcess) (joining : List Joining) (n : ℕ) → n ≡ 64 → All (HasFreeNumber p) joining → All (λ j. j.number < n) joining
small_numbers p joining n size free k d lt = subst (λ (most : ℕ). (get_or joining k d).number < most) (sym size) (free k d lt).0

-- ---- what is made of each

-- one more
pub made_more : {X : Type 0} (f : Joining → X) (joining : List Joining) (k : ℕ) (j : Joining) (x : X) (before after : List X) → k < length joining → j ≡ get_or joining k j → x ≡ f j
    → before ≡ map f (take k joining) → after ≡ before ++ x ∷ [] → after ≡ map f (take (k + 1) joining)
made_more {X} f joining k j x before after lt is same was step =
    step ∙ ap (λ (xs : List X). xs ++ x ∷ []) was ∙ ap (λ (y : X). map f (take k joining) ++ y ∷ []) same
    ∙ sym (map-append f (take k joining) (j ∷ [])) ∙ ap (map f) (sym (up_to_next joining k j lt is))

-- the next of it is that of the next module
pub next_made : {X : Type 0} (f : Joining → X) (joining : List Joining) (k : ℕ) (j : Joining) (left rest : List X) (x : X) → k < length joining → j ≡ get_or joining k j
    → left ≡ map f (drop k joining) → left ≡ x ∷ rest → (x ≡ f j) × (rest ≡ map f (drop (k + 1) joining))
next_made f joining k j left rest x lt is was step =
    let both : x ∷ rest ≡ f j ∷ map f (drop (k + 1) joining) = sym step ∙ was ∙ ap (map f) (from_next joining k j lt is) in
    (cc, cc)

-- some is left while a module is
pub some_made : {X : Type 0} (f : Joining → X) (joining : List Joining) (k : ℕ) (left : List X) → k < length joining → left ≡ map f (drop k joining) → 0 < length left
some_made f joining k left lt was =
    let mapped : length (map f (drop k joining)) ≡ length (drop k joining) = length-map (drop k joining) f in
    let same : length left ≡ length (map f (drop k joining)) = ap length was in
    omega (arith, mapped, same, length-drop k joining)
