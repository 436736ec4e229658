-- The numbers of a walk: small, free where they are new, and each once.
use Rattle.std.proofs.Common.{◌≡◌, ◌≢◌, ℕ, suc, ◌<◌, ◌≤◌, inl, inr, Bool, true, false, not, cond, List, [], ◌∷◌, length, get_or, take, map, refl, sym, ap, ◌∙◌, subst, arith, All, Option, Some, None, slice_get, ◌⊎◌}
use Rattle.std.specs.Prelude.{AllPairs, Contains, find, is_none, is_some, eqb, option_map, option_and_then}
use Rattle.std.specs.Option.{option_or}
use Rattle.std.specs.List.{range_with_len, list_any, filter_map, cons_option}
use Rattle.std.specs.Str.{bytes_eq}
use Rattle.std.proofs.lemmas.Bool.{false≢true, cases_lt}
use Rattle.std.proofs.lemmas.Bool.Decides.{Decides-eqb}
use Rattle.std.proofs.lemmas.Slice.Eq.{bytes_eq-Decides}
use Rattle.std.proofs.lemmas.List.{get_or-map, get_or-take, get_or_default, length-map, length-take, length-take-le, take_all}
use Rattle.std.proofs.lemmas.List.Elements.{All-filter, All-take, All-contains, filter_passes}
use Rattle.std.proofs.lemmas.List.FromFn.{length-range_with_len, get_or-range_with_len}
use Rattle.std.proofs.lemmas.List.Kept.{AllPairs-filter}
use Rattle.std.proofs.lemmas.List.Quantifiers.{position-Some}
use Rattle.std.proofs.lemmas.Map.Made.{IsDistinct-from_AllPairs}
use Rattle.std.proofs.lemmas.Map.Steps.{length-le_from_distinct_below}
use Rattle.std.proofs.lemmas.Option.{slice_get-get_or, get_or_from_slice_get, same_Some}
use Rattle.fd_base.proofs.Lists.{pairs-take, pairs_unmapped, range_below, all_unmapped}
use Rattle.fd_base.proofs.Options.{none_of_none}
use Rattle.fd_base.specs.Fetched.{Files}
use Rattle.symbol_scope.specs.declared.tables.TheConstants.{MAX_MODULES}
use Rattle.symbol_scope.proofs.Growing.{contained_has}
use Rattle.load_model.specs.declared.module.Joining.{Joining}
use Rattle.load_model.specs.declared.module.Live.{Live}
use Rattle.load_model.specs.declared.module.SymbolicProcess.{SymbolicProcess}
use Rattle.load_model.specs.Process.{live_at, is_live, is_live_named, number_of, free_numbers}
use Rattle.load_model.specs.Walk.{joining_named, number_among, needed_by, IsWalked}
use Rattle.load_process.specs.parts.WalkSteps.{IsNumbered}
use Rattle.load_process.proofs.BreadthFirst.{Names, stays}
use Rattle.load_process.proofs.WalkSteps.{names_once}

-- ---- pairs

range_once : (n : ℕ) → AllPairs (λ x y. x ≢ y) (range_with_len 0 n)
range_once n = λ i j d lt within.
    let inside : j < n = omega (arith, within, length-range_with_len 0 n) in
    let before : i < n = omega arith in
    λ same. absurd (omega (arith, same, get_or-range_with_len 0 n i d before, get_or-range_with_len 0 n j d inside))

-- ---- the new modules

not_live : (b : Bool) → not b ≡ true → b ≡ false
not_live true e = absurd (false≢true e)
not_live false e = refl

free_below : (p : SymbolicProcess) → All (λ m. m < MAX_MODULES) (free_numbers p)
free_below p = All-filter (λ m. not (is_live p m)) (λ m. m < MAX_MODULES) (range_with_len 0 MAX_MODULES) (range_below MAX_MODULES)

free_once : (p : SymbolicProcess) → AllPairs (λ x y. x ≢ y) (free_numbers p)
free_once p = AllPairs-filter (λ x y. x ≢ y) (λ m. not (is_live p m)) (range_with_len 0 MAX_MODULES) (range_once MAX_MODULES)

free_free : (p : SymbolicProcess) → All (λ m. is_live p m ≡ false) (free_numbers p)
free_free p = λ k d lt. not_live (is_live p (get_or (free_numbers p) k d)) (filter_passes (λ m. not (is_live p m)) (range_with_len 0 MAX_MODULES) k d lt)

of_numbers : (P : ℕ → Type 0) (p : SymbolicProcess) (joining : List Joining) → map (λ (j : Joining). j.number) joining ≡ take (length joining) (free_numbers p) → All P (free_numbers p)
    → All (λ (j : Joining). P j.number) joining
of_numbers P p joining is all =
    all_unmapped P (λ (j : Joining). j.number) joining (subst (All P) (sym is) (All-take P (length joining) (free_numbers p) all))

pub new_below : (p : SymbolicProcess) (joining : List Joining) → map (λ (j : Joining). j.number) joining ≡ take (length joining) (free_numbers p) → All (λ (j : Joining). j.number < MAX_MODULES) joining
new_below p joining is = of_numbers (λ m. m < MAX_MODULES) p joining is (free_below p)

pub new_free : (p : SymbolicProcess) (joining : List Joining) → map (λ (j : Joining). j.number) joining ≡ take (length joining) (free_numbers p) → All (λ (j : Joining). is_live p j.number ≡ false) joining
new_free p joining is = of_numbers (λ m. is_live p m ≡ false) p joining is (free_free p)

pub new_apart : (p : SymbolicProcess) (joining : List Joining) → map (λ (j : Joining). j.number) joining ≡ take (length joining) (free_numbers p)
    → AllPairs (λ (j k : Joining). j.number ≢ k.number) joining
new_apart p joining is =
    pairs_unmapped (λ x y. x ≢ y) (λ (j : Joining). j.number) joining
    (subst (AllPairs (λ x y. x ≢ y)) (sym is) (pairs-take (λ x y. x ≢ y) (length joining) (free_numbers p) (free_once p)))

pub names_new : (p : SymbolicProcess) (files : Option Files) (root : List ℕ) (n : ℕ) (joining : List Joining) (names : Names) → IsWalked p files root n joining names
    → All (λ (j : Joining). number_of p j.name ≡ None) joining
names_new p files root n joining names w =
    let test : List ℕ → Bool = λ x. is_none (number_of p x) in
    let pass : All (λ x. test x ≡ true) (map (λ (j : Joining). j.name) joining) = subst (All (λ x. test x ≡ true)) (sym w.fresh) (filter_passes test (take n names)) in
    λ k d lt. none_of_none (number_of p (get_or joining k d).name) (all_unmapped (λ x. test x ≡ true) (λ (j : Joining). j.name) joining pass k d lt)

pub names_apart : (p : SymbolicProcess) (files : Option Files) (root : List ℕ) (n : ℕ) (joining : List Joining) (names : Names) → IsWalked p files root n joining names
    → AllPairs (λ (j k : Joining). j.name ≢ k.name) joining
names_apart p files root n joining names w =
    let test : List ℕ → Bool = λ x. is_none (number_of p x) in
    let once = pairs-take (λ x y. x ≢ y) n names (names_once p files root n joining names w) in
    pairs_unmapped (λ x y. x ≢ y) (λ (j : Joining). j.name) joining
    (subst (AllPairs (λ x y. x ≢ y)) (sym w.fresh) (AllPairs-filter (λ x y. x ≢ y) test (take n names) once))

-- ---- whose number it is

found_by : {X : Type 0} (p : X → Bool) (x : X) (xs : List X) (y : X) (b : Bool) → p x ≡ b → (find p xs ≡ Some y → (p y ≡ true) × Contains xs y) → cond b (Some x) (find p xs) ≡ Some y
    → (p y ≡ true) × Contains (x ∷ xs) y
found_by p x xs y true is rest e = let same : x ≡ y = same_Some x y e in (ap p (sym same) ∙ is, (0, omega arith, same))
found_by p x xs y false is rest e = let there = rest e in (there.0, (suc there.1.0, omega (arith, there.1.1), there.1.2))

-- what is found passes, and is there
pub found_in : {X : Type 0} (p : X → Bool) (xs : List X) (y : X) → find p xs ≡ Some y → (p y ≡ true) × Contains xs y
found_in p [] y e = absurd cc
found_in p (x ∷ xs) y e = found_by p x xs y (p x) refl (found_in p xs y) e

pub data Owner (p : SymbolicProcess) (joining : List Joining) (m : ℕ) (x : List ℕ) : Type 0 where
  live : (l : Live) → live_at p m ≡ Some l → l.name ≡ x → m < length p.modules → Owner p joining m x
  new : (j : Joining) → Contains joining j → j.number ≡ m → j.name ≡ x → Owner p joining m x

named_live : (o : Option Live) (x : List ℕ) → is_live_named x o ≡ true → (l : Live) × (o ≡ Some l) × (l.name ≡ x)
named_live None x e = absurd (false≢true e)
named_live (Some l) x e = (l, refl, (bytes_eq-Decides l.name x).0 e)

owner_live : (p : SymbolicProcess) (joining : List Joining) (m : ℕ) (x : List ℕ) → number_of p x ≡ Some m → Owner p joining m x
owner_live p joining m x e =
    let at = position-Some (is_live_named x) p.modules m None e in
    let l = named_live (get_or p.modules m None) x at.1 in
    live l.0 (ap (option_and_then (λ place. place)) (slice_get-get_or p.modules m None at.0) ∙ l.1) l.2 at.0

owner_new : (p : SymbolicProcess) (joining : List Joining) (m : ℕ) (x : List ℕ) (o : Option Joining) → joining_named joining x ≡ o → option_map (λ (j : Joining). j.number) o ≡ Some m → Owner p joining m x
owner_new p joining m x None is e = absurd cc
owner_new p joining m x (Some j) is e =
    let there = found_in (λ (k : Joining). bytes_eq k.name x) joining j is in
    new j there.1 (same_Some j.number m e) ((bytes_eq-Decides j.name x).0 there.0)

pub owner : (p : SymbolicProcess) (joining : List Joining) (m : ℕ) (x : List ℕ) → number_among p joining x ≡ Some m → Owner p joining m x
owner p joining m x e = by_number (number_of p x) refl e
  where
    by_number : (o : Option ℕ) → number_of p x ≡ o → option_or o (option_map (λ (j : Joining). j.number) (joining_named joining x)) ≡ Some m → Owner p joining m x
    by_number None is e = owner_new p joining m x (joining_named joining x) refl e
    by_number (Some k) is e = owner_live p joining m x (is ∙ e)

pub owner_below : (p : SymbolicProcess) (joining : List Joining) (m : ℕ) (x : List ℕ) → length p.modules ≤ MAX_MODULES → All (λ (j : Joining). j.number < MAX_MODULES) joining → Owner p joining m x → m < MAX_MODULES
owner_below p joining m x size below (live l at is within) = omega (arith, within)
owner_below p joining m x size below (new j there is named) =
    let small : j.number < MAX_MODULES = All-contains (λ (k : Joining). k.number < MAX_MODULES) joining j below there in
    subst (λ k. k < MAX_MODULES) is small

live_not_free : (p : SymbolicProcess) (joining : List Joining) (m : ℕ) (l : Live) (j : Joining) → All (λ (k : Joining). is_live p k.number ≡ false) joining → live_at p m ≡ Some l → Contains joining j → j.number ≡ m → ⊥
live_not_free p joining m l j free at there is =
    let no : is_live p j.number ≡ false = All-contains (λ (k : Joining). is_live p k.number ≡ false) joining j free there in
    let yes : is_live p m ≡ true = ap is_some at in
    false≢true (sym no ∙ ap (is_live p) is ∙ yes)

same_new : (joining : List Joining) (j k : Joining) → AllPairs (λ (a b : Joining). a.number ≢ b.number) joining → Contains joining j → Contains joining k → j.number ≡ k.number → j ≡ k
same_new joining j k apart a b e = elim (cases_lt a.0 b.0) [
  | inl less ↦ absurd (differ j k a b less e)
  | inr more ↦ elim (cases_lt b.0 a.0) [
    | inl less ↦ absurd (differ k j b a less (sym e))
    | inr same ↦
        let at : a.0 ≡ b.0 = omega arith in
        sym a.2 ∙ get_or_default joining a.0 j k a.1 ∙ ap (λ i. get_or joining i k) at ∙ b.2
  ]
]
  where
    differ : (j k : Joining) (a : Contains joining j) (b : Contains joining k) → a.0 < b.0 → j.number ≡ k.number → ⊥
    differ j k a b less e =
        apart a.0 b.0 j less b.1 (ap (λ (x : Joining). x.number) a.2 ∙ e ∙ ap (λ (x : Joining). x.number) (sym (get_or_default joining b.0 j k b.1 ∙ b.2)))

-- two names of one number are one
pub owned_once : (p : SymbolicProcess) (joining : List Joining) (m : ℕ) (x y : List ℕ) → All (λ (j : Joining). is_live p j.number ≡ false) joining → AllPairs (λ (j k : Joining). j.number ≢ k.number) joining
    → Owner p joining m x → Owner p joining m y → x ≡ y
owned_once p joining m x y free apart (live l at is w) (live k there same v) =
    let one : l ≡ k = same_Some l k (sym at ∙ there) in
    sym is ∙ ap (λ (a : Live). a.name) one ∙ same
owned_once p joining m x y free apart (live l at is w) (new j there e same) = absurd (live_not_free p joining m l j free at there e)
owned_once p joining m x y free apart (new j there e is) (live l at same w) = absurd (live_not_free p joining m l j free at there e)
owned_once p joining m x y free apart (new j a e is) (new k b f same) =
    sym is ∙ ap (λ (z : Joining). z.name) (same_new joining j k apart a b (e ∙ sym f)) ∙ same

-- ---- the members

pub members_length : (f : List ℕ → Option ℕ) (names : Names) (members : List ℕ) (n : ℕ) → map Some members ≡ map f (take n names) → n ≤ length names → length members ≡ n
members_length f names members n each looked =
    sym (length-map members Some) ∙ ap length each ∙ length-map (take n names) f ∙ length-take-le n names looked

member_at : (f : List ℕ → Option ℕ) (names : Names) (members : List ℕ) (n k : ℕ) (d : ℕ) (x : List ℕ) → map Some members ≡ map f (take n names) → n ≤ length names → k < length members
    → f (get_or names k x) ≡ Some (get_or members k d)
member_at f names members n k d x each looked lt =
    let size = members_length f names members n each looked in
    let below : k < n = omega (arith, size) in
    let within : k < length (take n names) = omega (arith, length-take n names, below, looked) in
    ap f (sym (get_or-take n names k x below)) ∙ sym (get_or-map f (take n names) k x None within) ∙ ap (λ l. get_or l k None) (sym each) ∙ get_or-map Some members k d None lt

pub members_below : (p : SymbolicProcess) (files : Option Files) (root : List ℕ) (n : ℕ) (joining : List Joining) (names : Names) (members : List ℕ) → length p.modules ≤ MAX_MODULES
    → IsNumbered p files root n joining names members → All (λ m. m < MAX_MODULES) members
members_below p files root n joining names members size w = λ k d lt.
    let e = member_at (number_among p joining) names members n k d [] w.each w.walked.looked lt in
    owner_below p joining (get_or members k d) (get_or names k []) size (new_below p joining w.walked.numbers) (owner p joining (get_or members k d) (get_or names k []) e)

pub members_once : (p : SymbolicProcess) (files : Option Files) (root : List ℕ) (n : ℕ) (joining : List Joining) (names : Names) (members : List ℕ)
    → IsNumbered p files root n joining names members → AllPairs (λ x y. x ≢ y) members
members_once p files root n joining names members w = λ i j d lt within.
    let f = number_among p joining in
    let before : i < length members = omega arith in
    let size = members_length f names members n w.each w.walked.looked in
    let inside : j < length names = omega (arith, size, w.walked.looked, within) in
    let first = member_at f names members n i d [] w.each w.walked.looked before in
    let second = member_at f names members n j d [] w.each w.walked.looked within in
    λ same. names_once p files root n joining names w.walked i j [] lt inside
    (owned_once p joining (get_or members j d) (get_or names i []) (get_or names j []) (new_free p joining w.walked.numbers) (new_apart p joining w.walked.numbers)
    (owner p joining (get_or members j d) (get_or names i []) (first ∙ ap Some same)) (owner p joining (get_or members j d) (get_or names j []) second))

in_list : (P : ℕ → Type 0) (xs : List ℕ) (q : ℕ) → All P xs → list_any (eqb q) xs ≡ true → P q
in_list P xs q all e = All-contains P xs q all (contained_has eqb Decides-eqb xs q e)

pub few_members : (p : SymbolicProcess) (files : Option Files) (root : List ℕ) (n : ℕ) (joining : List Joining) (names : Names) (members : List ℕ) → length p.modules ≤ MAX_MODULES
    → IsNumbered p files root n joining names members → n ≤ MAX_MODULES
few_members p files root n joining names members size w =
    let once = IsDistinct-from_AllPairs {eq = eqb} Decides-eqb members (members_once p files root n joining names members w) in
    let below = members_below p files root n joining names members size w in
    let few = length-le_from_distinct_below members MAX_MODULES once (λ q e. in_list (λ m. m < MAX_MODULES) members q below e) in
    subst (λ k. k ≤ MAX_MODULES) (members_length (number_among p joining) names members n w.each w.walked.looked) few

-- ---- the whole

filter_map_each : (f : List ℕ → Option ℕ) (xs : Names) (members : List ℕ) → map Some members ≡ map f xs → members ≡ filter_map f xs
filter_map_each f [] [] e = refl
filter_map_each f [] (m ∷ ms) e = absurd cc
filter_map_each f (x ∷ xs) [] e = absurd cc
filter_map_each f (x ∷ xs) (m ∷ ms) e =
    let head : f x ≡ Some m = cc in
    let rest : map Some ms ≡ map f xs = cc in
    ap (λ l. m ∷ l) (filter_map_each f xs ms rest) ∙ ap (λ o. cons_option o (filter_map f xs)) (sym head)

pub as_filter : (f : List ℕ → Option ℕ) (names : Names) (members : List ℕ) → map Some members ≡ map f (take (length names) names) → members ≡ filter_map f names
as_filter f names members each = filter_map_each f names members (each ∙ ap (map f) (take_all (length names) names (omega arith)))

-- the first member is that of the root
pub first_member : (p : SymbolicProcess) (files : Option Files) (root : List ℕ) (n : ℕ) (joining : List Joining) (names : Names) (members : List ℕ)
    → IsNumbered p files root n joining names members → 1 ≤ n → slice_get members 0 ≡ number_among p joining root
first_member p files root n joining names members w some =
    let f = number_among p joining in
    let size = members_length f names members n w.each w.walked.looked in
    let lt : 0 < length members = omega (arith, size) in
    let here : slice_get names 0 ≡ Some root = ap (λ l. slice_get l 0) w.walked.names' ∙ stays (needed_by p joining) root 0 n 0 root (omega arith) refl in
    slice_get-get_or members 0 0 lt ∙ sym (member_at f names members n 0 0 root w.each w.walked.looked lt) ∙ ap f (get_or_from_slice_get names 0 root root here)

-- a number of a live module, or of one that joins
abbrev pub IsKnown : SymbolicProcess → List Joining → ℕ → Type 0
IsKnown p joining m = (is_live p m ≡ true) ⊎ Contains (map (λ (j : Joining). j.number) joining) m

known : (p : SymbolicProcess) (joining : List Joining) (m : ℕ) (x : List ℕ) → Owner p joining m x → IsKnown p joining m
known p joining m x (live l at is within) = inl (ap is_some at)
known p joining m x (new j there is named) =
    inr (
      there.0,
      omega (arith, length-map joining (λ (k : Joining). k.number), there.1),
      get_or-map (λ (k : Joining). k.number) joining there.0 j m there.1 ∙ ap (λ (k : Joining). k.number) there.2 ∙ is,
    )

pub members_known : (p : SymbolicProcess) (files : Option Files) (root : List ℕ) (n : ℕ) (joining : List Joining) (names : Names) (members : List ℕ)
    → IsNumbered p files root n joining names members → All (IsKnown p joining) members
members_known p files root n joining names members w = λ k d lt.
    let e = member_at (number_among p joining) names members n k d [] w.each w.walked.looked lt in
    known p joining (get_or members k d) (get_or names k []) (owner p joining (get_or members k d) (get_or names k []) e)
