-- Lists that grow by values which weren't there yet.
use Rattle.std.proofs.Common.{◌≡◌, ◌≢◌, ℕ, zero, suc, ◌≤◌, inl, inr, Bool, true, false, cond, List, [], ◌∷◌, ◌++◌, length, get_or, take, refl, sym, ◌∙◌, subst, arith, All, length-append}
use Rattle.std.specs.Prelude.{Contains, AllPairs}
use Rattle.std.specs.Bool.{Decides}
use Rattle.std.proofs.lemmas.Bool.{false≢true, or_left, or_right, or_cases}
use Rattle.std.proofs.lemmas.List.{take-append-le}
use Rattle.std.proofs.lemmas.List.Folds.{list_any-append, list_any_at}
use Rattle.std.proofs.lemmas.List.Quantifiers.{all_pairs_push}
use Rattle.std.proofs.lemmas.List.Elements.{All-push, All-head, All-tail}
use Rattle.symbol_scope.specs.Closure.{has, with_one, with_new}

-- ---- members

pub has_front : {X : Type 0} (same : X → X → Bool) (xs ys : List X) (x : X) → has same xs x ≡ true → has same (xs ++ ys) x ≡ true
has_front same xs ys x h = list_any-append (same x) xs ys ∙ or_left (has same xs x) (has same ys x) h

pub has_back : {X : Type 0} (same : X → X → Bool) (xs ys : List X) (x : X) → has same ys x ≡ true → has same (xs ++ ys) x ≡ true
has_back same xs ys x h = list_any-append (same x) xs ys ∙ or_right (has same xs x) (has same ys x) h

-- what is contained is found
pub has_contained : {X : Type 0} (same : X → X → Bool) (dec : (a b : X) → Decides (same a b) (a ≡ b)) (xs : List X) (x : X) → Contains xs x → has same xs x ≡ true
has_contained same dec xs x c = list_any_at (same x) xs c.0 x c.1 ((dec x (get_or xs c.0 x)).1 (sym c.2))

-- what is found is contained
pub contained_has : {X : Type 0} (same : X → X → Bool) (dec : (a b : X) → Decides (same a b) (a ≡ b)) (xs : List X) (x : X) → has same xs x ≡ true → Contains xs x
contained_has same dec [] x h = absurd (false≢true h)
contained_has same dec (y ∷ ys) x h = elim (or_cases (same x y) (has same ys x) h) [
  | inl here ↦ (zero, omega arith, sym ((dec x y).0 here))
  | inr there ↦ let rest = contained_has same dec ys x there in (suc rest.0, omega (arith, rest.1), rest.2)
]

-- ---- one more, and more

pub with_new-append : {X : Type 0} (same : X → X → Bool) (seen xs ys : List X) → with_new same seen (xs ++ ys) ≡ with_new same (with_new same seen xs) ys
with_new-append same seen [] ys = refl
with_new-append same seen (x ∷ xs) ys = with_new-append same (with_one same seen x) xs ys

one_stays : {X : Type 0} (b : Bool) (seen : List X) (x : X) (n : ℕ) → n ≤ length seen → take n (cond b seen (seen ++ x ∷ [])) ≡ take n seen
one_stays true seen x n le = refl
one_stays false seen x n le = take-append-le n seen (x ∷ []) le

longer : {X : Type 0} (b : Bool) (seen : List X) (x : X) → length seen ≤ length (cond b seen (seen ++ x ∷ []))
longer true seen x = omega arith
longer false seen x = grind (arith, length-append)

pub length-with_new : {X : Type 0} (same : X → X → Bool) (seen xs : List X) → length seen ≤ length (with_new same seen xs)
length-with_new same seen [] = omega arith
length-with_new same seen (x ∷ xs) =
    omega (arith, longer (has same seen x) seen x, length-with_new same (with_one same seen x) xs)

-- what was there stays in front
pub take-with_new : {X : Type 0} (same : X → X → Bool) (n : ℕ) (seen xs : List X) → n ≤ length seen → take n (with_new same seen xs) ≡ take n seen
take-with_new same n seen [] le = refl
take-with_new same n seen (x ∷ xs) le =
    let far : n ≤ length (with_one same seen x) = omega (arith, longer (has same seen x) seen x) in
    take-with_new same n (with_one same seen x) xs far ∙ one_stays (has same seen x) seen x n le

all_one : {X : Type 0} (P : X → Type 0) (b : Bool) (seen : List X) (x : X) → All P seen → P x → All P (cond b seen (seen ++ x ∷ []))
all_one P true seen x all p = all
all_one P false seen x all p = All-push P seen x all p

pub All-with_new : {X : Type 0} (same : X → X → Bool) (P : X → Type 0) (seen xs : List X) → All P seen → All P xs → All P (with_new same seen xs)
All-with_new same P seen [] all more = all
All-with_new same P seen (x ∷ xs) all more =
    All-with_new same P (with_one same seen x) xs (all_one P (has same seen x) seen x all (All-head P x xs more)) (All-tail P x xs more)

kept_one : {X : Type 0} (same : X → X → Bool) (b : Bool) (seen : List X) (x y : X) → has same seen y ≡ true → has same (cond b seen (seen ++ x ∷ [])) y ≡ true
kept_one same true seen x y h = h
kept_one same false seen x y h = has_front same seen (x ∷ []) y h

pub kept : {X : Type 0} (same : X → X → Bool) (seen xs : List X) (y : X) → has same seen y ≡ true → has same (with_new same seen xs) y ≡ true
kept same seen [] y h = h
kept same seen (x ∷ xs) y h = kept same (with_one same seen x) xs y (kept_one same (has same seen x) seen x y h)

gained_one : {X : Type 0} (same : X → X → Bool) (b : Bool) (seen : List X) (x y : X) → same y x ≡ true → has same seen x ≡ b → (has same seen x ≡ true → has same seen y ≡ true)
    → has same (cond b seen (seen ++ x ∷ [])) y ≡ true
gained_one same true seen x y h e via = via e
gained_one same false seen x y h e via = has_back same seen (x ∷ []) y (or_left (same y x) false h)

-- what was added is there
pub gained : {X : Type 0} (same : X → X → Bool) (dec : (a b : X) → Decides (same a b) (a ≡ b)) (seen xs : List X) (y : X) → has same xs y ≡ true → has same (with_new same seen xs) y ≡ true
gained same dec seen [] y h = absurd (false≢true h)
gained same dec seen (x ∷ xs) y h = elim (or_cases (same y x) (has same xs y) h) [
  | inl here ↦
      let is : x ≡ y = sym ((dec y x).0 here) in
      kept same (with_one same seen x) xs y (gained_one same (has same seen x) seen x y here refl (λ g. subst (λ z. has same seen z ≡ true) is g))
  | inr there ↦ gained same dec (with_one same seen x) xs y there
]

once_one : {X : Type 0} (same : X → X → Bool) (dec : (a b : X) → Decides (same a b) (a ≡ b)) (b : Bool) (seen : List X) (x : X) → has same seen x ≡ b → AllPairs (λ y z. y ≢ z) seen
    → AllPairs (λ y z. y ≢ z) (cond b seen (seen ++ x ∷ []))
once_one same dec true seen x e once = once
once_one same dec false seen x e once =
    all_pairs_push (λ y z. y ≢ z) seen x once (λ k d lt is. false≢true (sym e ∙ list_any_at (same x) seen k d lt ((dec x (get_or seen k d)).1 (sym is))))

-- each value stays one
pub once_more : {X : Type 0} (same : X → X → Bool) (dec : (a b : X) → Decides (same a b) (a ≡ b)) (seen xs : List X) → AllPairs (λ y z. y ≢ z) seen → AllPairs (λ y z. y ≢ z) (with_new same seen xs)
once_more same dec seen [] once = once
once_more same dec seen (x ∷ xs) once = once_more same dec (with_one same seen x) xs (once_one same dec (has same seen x) seen x refl once)
