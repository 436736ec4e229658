-- A closure has what is reached and nothing else, each once, and there is one.
use Rattle.std.proofs.Common.{◌≡◌, ◌≢◌, ℕ, zero, suc, ◌<◌, ◌≤◌, inl, inr, Bool, true, List, [], ◌∷◌, ◌++◌, length, get_or, take, drop, refl, sym, ap, ◌∙◌, subst, arith}
use Rattle.std.specs.Prelude.{Contains, AllPairs}
use Rattle.std.specs.Bool.{Decides}
use Rattle.std.specs.List.{flat_map}
use Rattle.std.proofs.lemmas.Bool.{false≢true, cases_lt, or_cases}
use Rattle.std.proofs.lemmas.List.{take-take, get_or-take, get_or_default, take_all, take-append-drop, length-take-le, append_assoc}
use Rattle.std.proofs.lemmas.List.Concat.{flat_map-append}
use Rattle.symbol_scope.specs.Closure.{has, with_new, firsts, Reaches, IsReached, IsClosure}
use Rattle.symbol_scope.specs.parts.Laws.{ClosuresOf}
use Rattle.symbol_scope.proofs.Growing.{has_front, has_back, has_contained, contained_has, with_new-append, take-with_new, length-with_new, gained, once_more}

in_flat : {X : Type 0} (same : X → X → Bool) (dec : (a b : X) → Decides (same a b) (a ≡ b)) (needs : X → List X) (xs : List X) (via x : X) → has same xs via ≡ true → has same (needs via) x ≡ true
    → has same (flat_map needs xs) x ≡ true
in_flat same dec needs [] via x e h = absurd (false≢true e)
in_flat same dec needs (y ∷ ys) via x e h = elim (or_cases (same via y) (has same ys via) e) [
  | inl here ↦ has_front same (needs y) (flat_map needs ys) x (subst (λ z. has same (needs z) x ≡ true) ((dec via y).0 here) h)
  | inr there ↦ has_back same (needs y) (flat_map needs ys) x (in_flat same dec needs ys via x there h)
]

-- values that have the roots and all that they need have what is reached
pub reached_in : {X : Type 0} (same : X → X → Bool) (dec : (a b : X) → Decides (same a b) (a ≡ b)) (needs : X → List X) (roots xs : List X)
    → ((x : X) → has same (roots ++ flat_map needs xs) x ≡ true → has same xs x ≡ true) → (x : X) (n : ℕ) → Reaches needs roots x n → has same xs x ≡ true
reached_in same dec needs roots xs closed x zero r = closed x (has_front same roots (flat_map needs xs) x (has_contained same dec roots x r))
reached_in same dec needs roots xs closed x (suc n) r =
    let before = reached_in same dec needs roots xs closed r.0 n r.1 in
    closed x (has_back same roots (flat_map needs xs) x (in_flat same dec needs xs r.0 x before (has_contained same dec (needs r.0) x r.2)))

pub whole : {X : Type 0} (same : X → X → Bool) (dec : (a b : X) → Decides (same a b) (a ≡ b)) (needs : X → List X) (roots members : List X) (x : X)
    → IsClosure same needs roots members → IsReached needs roots x → Contains members x
whole {X} same dec needs roots members x closure reached =
    let closed : (y : X) → has same (roots ++ flat_map needs members) y ≡ true → has same members y ≡ true =
    λ y h. subst (λ l. has same l y ≡ true) (sym closure.order) (gained same dec [] (roots ++ flat_map needs members) y h) in
    contained_has same dec members x (reached_in same dec needs roots members closed x reached.0 reached.1)

pub once : {X : Type 0} (same : X → X → Bool) (dec : (a b : X) → Decides (same a b) (a ≡ b)) (needs : X → List X) (roots members : List X)
    → IsClosure same needs roots members → AllPairs (λ x y. x ≢ y) members
once same dec needs roots members closure =
    subst (AllPairs (λ x y. x ≢ y)) (sym closure.order) (once_more same dec [] (roots ++ flat_map needs members) (λ i j d lt within. absurd (omega arith)))

-- what the roots and the first k members come to, which stands in front of the closure
abbrev front : {X : Type 0} → (X → X → Bool) → (X → List X) → List X → List X → List X
front same needs roots xs = firsts same (roots ++ flat_map needs xs)

goes_on : {X : Type 0} (same : X → X → Bool) (needs : X → List X) (roots members : List X) (k : ℕ) → IsClosure same needs roots members
    → members ≡ with_new same (front same needs roots (take k members)) (flat_map needs (drop k members))
goes_on same needs roots members k closure =
    let parts : flat_map needs members ≡ flat_map needs (take k members) ++ flat_map needs (drop k members) =
    ap (flat_map needs) (sym (take-append-drop k members)) ∙ flat_map-append needs (take k members) (drop k members) in
    closure.order ∙ ap (λ l. firsts same (roots ++ l)) parts
    ∙ ap (firsts same) (sym (append_assoc roots (flat_map needs (take k members)) (flat_map needs (drop k members))))
    ∙ with_new-append same [] (roots ++ flat_map needs (take k members)) (flat_map needs (drop k members))

in_front : {X : Type 0} (same : X → X → Bool) (needs : X → List X) (roots members : List X) (k n : ℕ) → IsClosure same needs roots members → n ≤ length (front same needs roots (take k members))
    → (take n members ≡ take n (front same needs roots (take k members))) × (n ≤ length members)
in_front same needs roots members k n closure le =
    let q = front same needs roots (take k members) in
    let rest = flat_map needs (drop k members) in
    let on : members ≡ with_new same q rest = goes_on same needs roots members k closure in
    let far : length q ≤ length (with_new same q rest) = length-with_new same q rest in
    (ap (take n) on ∙ take-with_new same n q rest le, omega (arith, ap length on))

some_of : {X : Type 0} (xs : List X) (k : ℕ) → k < length xs → X
some_of [] k lt = absurd (omega arith)
some_of (x ∷ xs) k lt = x

has_taken : {X : Type 0} (same : X → X → Bool) (n : ℕ) (xs : List X) (x : X) → has same (take n xs) x ≡ true → has same xs x ≡ true
has_taken same n xs x h = subst (λ l. has same l x ≡ true) (take-append-drop n xs) (has_front same (take n xs) (drop n xs) x h)

-- where each value is one, none stands among those before it
apart_taken : {X : Type 0} (xs : List X) (k j : ℕ) (d : X) → AllPairs (λ x y. x ≢ y) xs → k < length xs → j < length (take k xs)
    → get_or (take k xs) j (get_or xs k d) ≡ get_or xs k d → ⊥
apart_taken xs k j d distinct lt within is =
    let len : length (take k xs) ≡ k = length-take-le k xs (omega arith) in
    let below : j < k = omega arith in
    let same : get_or xs j d ≡ get_or xs k d = get_or_default xs j d (get_or xs k d) (omega arith) ∙ sym (get_or-take k xs j (get_or xs k d) below) ∙ is in
    distinct j k d below lt same

-- the front goes past the first k members, where there are more
goes_past : {X : Type 0} (same : X → X → Bool) (dec : (a b : X) → Decides (same a b) (a ≡ b)) (needs : X → List X) (roots members : List X) (k : ℕ) → IsClosure same needs roots members → k < length members
    → k < length (front same needs roots (take k members))
goes_past {X} same dec needs roots members k closure lt =
    elim (cases_lt k (length (front same needs roots (take k members)))) [
      | inl past ↦ past
      | inr short ↦ absurd (stuck short)
    ]
  where
    stuck : length (front same needs roots (take k members)) ≤ k → ⊥
    stuck short =
        let q = front same needs roots (take k members) in
        let d = some_of members k lt in
        let start : take (length q) members ≡ q = (in_front same needs roots members k (length q) closure (omega arith)).0 ∙ take_all (length q) q (omega arith) in
        let within : take (length q) (take k members) ≡ q = take-take (length q) k members short ∙ start in
        let closed : (x : X) → has same (roots ++ flat_map needs (take k members)) x ≡ true → has same (take k members) x ≡ true =
        λ x h. has_taken same (length q) (take k members) x (subst (λ l. has same l x ≡ true) (sym within) (gained same dec [] (roots ++ flat_map needs (take k members)) x h)) in
        let reached = closure.reached k d lt in
        let there = contained_has same dec (take k members) (get_or members k d) (reached_in same dec needs roots (take k members) closed (get_or members k d) reached.0 reached.1) in
        apart_taken members k there.0 d (once same dec needs roots members closure) lt there.1 there.2

agree : {X : Type 0} (same : X → X → Bool) (dec : (a b : X) → Decides (same a b) (a ≡ b)) (needs : X → List X) (roots xs ys : List X) → IsClosure same needs roots xs → IsClosure same needs roots ys
    → (k : ℕ) → k ≤ length xs → (take k xs ≡ take k ys) × (k ≤ length ys)
agree same dec needs roots xs ys cx cy zero le = (refl, omega arith)
agree same dec needs roots xs ys cx cy (suc k) le =
    let before = agree same dec needs roots xs ys cx cy k (omega arith) in
    let past : suc k ≤ length (front same needs roots (take k xs)) = goes_past same dec needs roots xs k cx (omega arith) in
    let mine = in_front same needs roots xs k (suc k) cx past in
    let theirs = in_front same needs roots ys k (suc k) cy (subst (λ l. suc k ≤ length (front same needs roots l)) before.0 past) in
    (mine.0 ∙ ap (λ l. take (suc k) (front same needs roots l)) before.0 ∙ sym theirs.0, theirs.1)

pub one : {X : Type 0} (same : X → X → Bool) (dec : (a b : X) → Decides (same a b) (a ≡ b)) (needs : X → List X) (roots xs ys : List X) → IsClosure same needs roots xs → IsClosure same needs roots ys → xs ≡ ys
one same dec needs roots xs ys cx cy =
    let there = agree same dec needs roots xs ys cx cy (length xs) (omega arith) in
    let back = agree same dec needs roots ys xs cy cx (length ys) (omega arith) in
    sym (take_all (length xs) xs (omega arith)) ∙ there.0 ∙ take_all (length xs) ys (omega (arith, back.1))

pub closures : {X : Type 0} (same : X → X → Bool) → ((a b : X) → Decides (same a b) (a ≡ b)) → ClosuresOf X same
closures same dec = record { one = one same dec; whole = whole same dec; once = once same dec }
