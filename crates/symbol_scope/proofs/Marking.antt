-- The steps of a closure, and the marks of what is found.
use Rattle.std.proofs.Common.{◌≡◌, ◌≢◌, ℕ, zero, suc, ◌+◌, ◌<◌, ◌≤◌, ◌⊎◌, inl, inr, Bool, true, false, cond, ◌||◌, Option, List, [], ◌∷◌, ◌++◌, length, get_or, set, take, refl, sym, ap, ◌∙◌, subst, arith, All, length-append, length-set}
use Rattle.std.specs.Prelude.{count_by, nat_eq}
use Rattle.std.specs.List.{flat_map, filter_map}
use Rattle.std.proofs.Math.Bool.{or-false}
use Rattle.std.proofs.lemmas.List.{take_more, take_all, get_or-set_same, get_or-set_other, get_or_default, append-nil}
use Rattle.std.proofs.lemmas.List.Folds.{list_any-append}
use Rattle.std.proofs.lemmas.List.Sums.{sum_by-set}
use Rattle.std.proofs.lemmas.List.Concat.{flat_map-append}
use Rattle.std.proofs.lemmas.List.Elements.{filter_map-append, Contains-get_or}
use Rattle.std.proofs.lemmas.Bool.Decides.{nat_tests}
use Rattle.std.proofs.lemmas.Bool.{cases_lt}
use Rattle.symbol_scope.specs.Closure.{has, with_new, firsts, IsReached, IsClosure}
use Rattle.symbol_scope.specs.parts.Marks.{IsMarked}
use Rattle.symbol_scope.proofs.Growing.{with_new-append, take-with_new, length-with_new, All-with_new, has_back}

-- one more name
pub named_more : {X Y : Type 0} (same : Y → Y → Bool) (g : X → Option Y) (names : List X) (i : ℕ) (name : X) (before now after : List Y) → i < length names → name ≡ get_or names i name
    → now ≡ with_new same before (filter_map g (take i names)) → after ≡ with_new same now (filter_map g (name ∷ [])) → after ≡ with_new same before (filter_map g (take (i + 1) names))
named_more same g names i name before now after lt is was step =
    step ∙ ap (λ l. with_new same l (filter_map g (name ∷ []))) was ∙ sym (with_new-append same before (filter_map g (take i names)) (filter_map g (name ∷ [])))
    ∙ ap (with_new same before)
    (sym (filter_map-append g (take i names) (name ∷ [])) ∙ ap (filter_map g) (ap (λ x. take i names ++ x ∷ []) is ∙ sym (take_more names i name lt)))

-- one more module's needs
pub order_more : {X : Type 0} (same : X → X → Bool) (needs : X → List X) (root : X) (i : ℕ) (number : X) (now after : List X) → i < length now → number ≡ get_or now i number
    → now ≡ firsts same (root ∷ [] ++ flat_map needs (take i now)) → after ≡ with_new same now (needs number)
    → after ≡ firsts same (root ∷ [] ++ flat_map needs (take (i + 1) after))
order_more same needs root i number now after lt is was step =
    let within : i + 1 ≤ length now = omega arith in
    let front : take (i + 1) after ≡ take i now ++ number ∷ [] =
    ap (take (i + 1)) step ∙ take-with_new same (i + 1) now (needs number) within ∙ take_more now i number lt ∙ ap (λ x. take i now ++ x ∷ []) (sym is) in
    let all : flat_map needs (take (i + 1) after) ≡ flat_map needs (take i now) ++ needs number =
    ap (flat_map needs) front ∙ flat_map-append needs (take i now) (number ∷ []) ∙ ap (λ l. flat_map needs (take i now) ++ l) (append-nil (needs number)) in
    step ∙ ap (λ l. with_new same l (needs number)) was ∙ sym (with_new-append same [] (root ∷ [] ++ flat_map needs (take i now)) (needs number))
    ∙ ap (λ l. firsts same (root ∷ l)) (sym all)

pub reached_more : {X : Type 0} (same : X → X → Bool) (needs : X → List X) (root : X) (i : ℕ) (number : X) (now after : List X) → i < length now → number ≡ get_or now i number
    → All (IsReached needs (root ∷ [])) now → after ≡ with_new same now (needs number) → All (IsReached needs (root ∷ [])) after
reached_more same needs root i number now after lt is all step =
    let via : IsReached needs (root ∷ []) number = subst (IsReached needs (root ∷ [])) (sym is) (all i number lt) in
    let needed : All (IsReached needs (root ∷ [])) (needs number) = λ k d within. (suc via.0, (number, via.1, Contains-get_or (needs number) k d within)) in
    subst (All (IsReached needs (root ∷ []))) (sym step) (All-with_new same (IsReached needs (root ∷ [])) now (needs number) all needed)

pub length_more : {X : Type 0} (same : X → X → Bool) (needs : X → List X) (i : ℕ) (number : X) (now after : List X) → i < length now → after ≡ with_new same now (needs number) → i + 1 ≤ length after
length_more same needs i number now after lt step = omega (arith, length-with_new same now (needs number), ap length step)

pub first_reached : {X : Type 0} (needs : X → List X) (root : X) (xs : List X) → xs ≡ root ∷ [] → All (IsReached needs (root ∷ [])) xs
first_reached needs root xs e = subst (All (IsReached needs (root ∷ []))) (sym e) (λ k d lt. (zero, Contains-get_or (root ∷ []) k d lt))

pub closed : {X : Type 0} (same : X → X → Bool) (needs : X → List X) (root : X) (i : ℕ) (members : List X) → length members ≤ i → members ≡ firsts same (root ∷ [] ++ flat_map needs (take i members))
    → All (IsReached needs (root ∷ [])) members → IsClosure same needs (root ∷ []) members
closed same needs root i members le order reached =
    record { order = order ∙ ap (λ l. firsts same (root ∷ [] ++ flat_map needs l)) (take_all i members le); reached = reached }

-- ---- marks

has-same : (xs : List ℕ) (n : ℕ) → has nat_eq (xs ++ n ∷ []) n ≡ true
has-same xs n = has_back nat_eq xs (n ∷ []) n (grind (arith, nat_tests))

has-other : (xs : List ℕ) (n m : ℕ) → n ≢ m → has nat_eq (xs ++ n ∷ []) m ≡ has nat_eq xs m
has-other xs n m ne =
    let no : has nat_eq (n ∷ []) m ≡ false = grind (arith, nat_tests) in
    list_any-append (nat_eq m) xs (n ∷ []) ∙ ap (λ b. has nat_eq xs m || b) no ∙ or-false (has nat_eq xs m)

count-set : (seen : List Bool) (n : ℕ) → n < length seen → get_or seen n false ≡ false → count_by (λ b. b) (set seen n true) ≡ count_by (λ b. b) seen + 1
count-set seen n lt e =
    let one : Bool → ℕ = λ b. cond b 1 0 in
    let h = sum_by-set one seen n true false lt in
    let g : one (get_or seen n false) ≡ 0 = ap one e in
    omega (arith, h, g)

same_or_not : (n m : ℕ) → (n ≡ m) ⊎ (n ≢ m)
same_or_not n m = elim (cases_lt n m) [ inl h ↦ inr (omega arith) | inr h ↦ elim (cases_lt m n) [ inl g ↦ inr (omega arith) | inr g ↦ inl (omega arith) ] ]

pub marked_more : (seen : List Bool) (found : List ℕ) (n : ℕ) → n < 64 → get_or seen n false ≡ false → IsMarked seen found → IsMarked (set seen n true) (found ++ n ∷ [])
marked_more seen found n lt e marked =
    let within : n < length seen = omega (arith, marked.size) in
    record {
      size = length-set seen n true ∙ marked.size;
      marks = λ m small. elim (same_or_not n m) as (λ _. get_or (set seen n true) m false ≡ has nat_eq (found ++ n ∷ []) m) [
        | inl same ↦ subst (λ k. get_or (set seen n true) k false ≡ has nat_eq (found ++ n ∷ []) k) same (get_or-set_same seen n true false within ∙ sym (has-same found n))
        | inr ne ↦ other m small ne
      ];
      count = count-set seen n within e ∙ ap (λ k. k + 1) marked.count ∙ size_push found n;
    }
  where
    other : (m : ℕ) → m < 64 → n ≢ m → get_or (set seen n true) m false ≡ has nat_eq (found ++ n ∷ []) m
    other m small ne = let ne' : m ≢ n = λ h. ne (sym h) in (rw get_or-set_other refl) ∙ marked.marks m small ∙ sym (has-other found n m ne)

    size_push : (xs : List ℕ) (x : ℕ) → length xs + 1 ≡ length (xs ++ x ∷ [])
    size_push xs x = grind (arith, length-append)

-- what is read at a place at any default
pub read_false : (seen : List Bool) (n : ℕ) (r : Bool) → n < 64 → length seen ≡ 64 → r ≡ get_or seen n r → r ≡ false → get_or seen n false ≡ false
read_false seen n r lt size is e = let within : n < length seen = omega arith in get_or_default seen n false r within ∙ sym is ∙ e
