-- What the names of a walk need, over told files: no matter which modules have joined so far.
use Rattle.std.proofs.Common.{◌≡◌, ℕ, zero, suc, ◌<◌, ◌≤◌, Bool, true, false, cond, List, [], ◌∷◌, length, get_or, take, map, refl, sym, ap, ◌∙◌, subst, arith, All, Option, Some, None}
use Rattle.std.specs.Prelude.{Contains, slice_get, filter, find, is_none, option_map, option_and_then, IsSomeAnd}
use Rattle.std.specs.Option.{option_map_or, option_or}
use Rattle.std.specs.FinMap.{get}
use Rattle.std.specs.Str.{bytes_eq}
use Rattle.std.proofs.lemmas.Bool.{false≢true}
use Rattle.std.proofs.lemmas.Slice.Eq.{bytes_eq-Decides}
use Rattle.std.proofs.lemmas.List.{get_or-take, length-take}
use Rattle.std.proofs.lemmas.List.Elements.{All-contains}
use Rattle.std.proofs.lemmas.Option.{slice_get_within, get_or_from_slice_get}
use Rattle.fd_base.proofs.Members.{in_map}
use Rattle.fd_base.proofs.Options.{or_none}
use Rattle.fd_base.specs.Fetched.{Files}
use Rattle.elf_model.specs.declared.object.Object.{Object}
use Rattle.elf_model.specs.Object.{IsObject, object_of}
use Rattle.fd_base.specs.declared.store.TheConstants.{MAX_FILE}
use Rattle.load_model.specs.declared.module.Joining.{Joining}
use Rattle.load_model.specs.declared.module.SymbolicProcess.{SymbolicProcess}
use Rattle.load_model.specs.Process.{number_of, object_at}
use Rattle.load_model.specs.Walk.{FileIs, joining_named, needed_by, found_after, IsWalked}
use Rattle.load_process.proofs.BreadthFirst.{Names, stays, agree}
use Rattle.load_process.proofs.Needs.{other_bytes}
use Rattle.fd_base.proofs.Finding.{find_none}
use Rattle.load_process.proofs.WalkNumbers.{found_in, names_new}

-- ---- members of filters and of maps

kept_in : {X : Type 0} (p : X → Bool) (x : X) (xs : List X) (y : X) (b : Bool) → p x ≡ b → Contains (filter p xs) y → Contains (cond b (x ∷ filter p xs) (filter p xs)) y
kept_in p x xs y true is there = (suc there.0, omega (arith, there.1), there.2)
kept_in p x xs y false is there = there

first_in : {X : Type 0} (p : X → Bool) (x : X) (xs : List X) (y : X) (b : Bool) → p x ≡ b → p y ≡ true → x ≡ y → Contains (cond b (x ∷ filter p xs) (filter p xs)) y
first_in p x xs y true is pass same = (0, omega arith, same)
first_in p x xs y false is pass same = absurd (false≢true (sym is ∙ ap p same ∙ pass))

pub filter_has : {X : Type 0} (p : X → Bool) (xs : List X) (k : ℕ) (d y : X) → k < length xs → get_or xs k d ≡ y → p y ≡ true → Contains (filter p xs) y
filter_has p [] k d y lt is pass = absurd (omega arith)
filter_has p (x ∷ xs) zero d y lt is pass = first_in p x xs y (p x) refl pass is
filter_has p (x ∷ xs) (suc k) d y lt is pass = kept_in p x xs y (p x) refl (filter_has p xs k d y (omega (arith, lt)) is pass)

found_some : {X : Type 0} (p : X → Bool) (x : X) (xs : List X) (b : Bool) → p x ≡ b → (y : X) × (find p xs ≡ Some y) → (y : X) × (cond b (Some x) (find p xs) ≡ Some y)
found_some p x xs true is rest = (x, refl)
found_some p x xs false is rest = rest

found_first : {X : Type 0} (p : X → Bool) (x : X) (xs : List X) (b : Bool) → p x ≡ b → p x ≡ true → (y : X) × (cond b (Some x) (find p xs) ≡ Some y)
found_first p x xs true is pass = (x, refl)
found_first p x xs false is pass = absurd (false≢true (sym is ∙ pass))

-- one that passes is found, or one before it
pub find_some : {X : Type 0} (p : X → Bool) (xs : List X) (k : ℕ) (d : X) → k < length xs → p (get_or xs k d) ≡ true → (y : X) × (find p xs ≡ Some y)
find_some p [] k d lt pass = absurd (omega arith)
find_some p (x ∷ xs) zero d lt pass = found_first p x xs (p x) refl pass
find_some p (x ∷ xs) (suc k) d lt pass = found_some p x xs (p x) refl (find_some p xs k d (omega (arith, lt)) pass)

-- ---- the module of a name that is new

-- its module joined, with the object of its file
pub record HasJoined (told : Files) (joining : List Joining) (x : List ℕ) : Type 0 where
  pub joined : Joining
  pub found : joining_named joining x ≡ Some joined
  pub file : FileIs (Some told) x joined.object

at_name : (told : Files) (x y : List ℕ) (o : Object) → x ≡ y → FileIs (Some told) x o → FileIs (Some told) y o
at_name told x y o same file = subst (λ z. FileIs (Some told) z o) same file

its_name : (joining : List Joining) (k : ℕ) (j : Joining) (x : List ℕ) → get_or joining k j ≡ j → j.name ≡ x → bytes_eq (get_or joining k j).name x ≡ true
its_name joining k j x is named = (bytes_eq-Decides (get_or joining k j).name x).1 (ap (λ (a : Joining). a.name) is ∙ named)

pub has_joined : (p : SymbolicProcess) (told : Files) (root : List ℕ) (n : ℕ) (joining : List Joining) (names : Names) (k : ℕ) (x : List ℕ) → IsWalked p (Some told) root n joining names
    → k < n → slice_get names k ≡ Some x → number_of p x ≡ None → HasJoined told joining x
has_joined p told root n joining names k x w lt here new =
    let within : k < length names = slice_get_within names k x here in
    let inside : k < length (take n names) = omega (arith, length-take n names) in
    let is : get_or (take n names) k x ≡ x = get_or-take n names k x lt ∙ get_or_from_slice_get names k x x here in
    let kept : Contains (filter (λ y. is_none (number_of p y)) (take n names)) x = filter_has (λ y. is_none (number_of p y)) (take n names) k x x inside is (ap is_none new) in
    let named : Contains (map (λ (j : Joining). j.name) joining) x = subst (λ l. Contains l x) (sym w.fresh) kept in
    let j = in_map (λ (j : Joining). j.name) joining x named in
    let pass = its_name joining j.1.0 j.0 x j.1.2 j.2 in
    let found = find_some (λ (a : Joining). bytes_eq a.name x) joining j.1.0 j.0 j.1.1 pass in
    let there = found_in (λ (a : Joining). bytes_eq a.name x) joining found.0 found.1 in
    let same : found.0.name ≡ x = (bytes_eq-Decides found.0.name x).0 there.0 in
    let file : FileIs (Some told) found.0.name found.0.object = All-contains (λ (a : Joining). FileIs (Some told) a.name a.object) joining found.0 w.files' there.1 in
    record { joined = found.0; found = found.1; file = at_name told found.0.name x found.0.object same file }

-- ---- what a name needs

pub told_needs : SymbolicProcess → Files → List ℕ → Names
told_needs p told x =
    option_map_or (λ m. option_map_or (λ (o : Object). o.needed) (object_at p m) [])
    (number_of p x) (option_map_or (λ (o : Object). o.needed) (option_map object_of (get told x)) [])

-- a name of a live module has no new one
not_joined : (p : SymbolicProcess) (joining : List Joining) (x : List ℕ) (m : ℕ) → All (λ (j : Joining). number_of p j.name ≡ None) joining → number_of p x ≡ Some m → joining_named joining x ≡ None
not_joined p joining x m new live =
    find_none (λ (j : Joining). bytes_eq j.name x) joining
    (λ k d lt. other_bytes (get_or joining k d).name x (λ same. let e : Some m ≡ None = sym live ∙ ap (number_of p) (sym same) ∙ new k d lt in cc))

file_object : (told : Files) (x : List ℕ) (o : Object) (f : Option (List ℕ)) → get told x ≡ f → FileIs (Some told) x o → option_map object_of f ≡ Some o
file_object told x o None is file = absurd (missing (get told x) is file)
  where
    missing : (g : Option (List ℕ)) → g ≡ None → IsSomeAnd g (λ bytes. (length bytes ≤ MAX_FILE) × IsObject bytes o) → ⊥
    missing None is file = file
    missing (Some bytes) is file = absurd cc
file_object told x o (Some bytes) is file = there (get told x) is file
  where
    there : (g : Option (List ℕ)) → g ≡ Some bytes → IsSomeAnd g (λ bs. (length bs ≤ MAX_FILE) × IsObject bs o) → option_map object_of (Some bytes) ≡ Some o
    there None is file = absurd cc
    there (Some bs) is file = let same : bs ≡ bytes = cc in ap (λ b. Some (object_of b)) (sym same) ∙ ap Some (sym file.1.fields)

needs_live : (p : SymbolicProcess) (told : Files) (joining : List Joining) (x : List ℕ) (m : ℕ) → All (λ (j : Joining). number_of p j.name ≡ None) joining → number_of p x ≡ Some m
    → needed_by p joining x ≡ told_needs p told x
unfolding told_needs
needs_live p told joining x m new live =
    let file : Names = option_map_or (λ (o : Object). o.needed) (option_map object_of (get told x)) [] in
    ap (λ o. option_map_or (λ (t : Object). t.needed) (option_or (option_and_then (object_at p) o) (option_map (λ (j : Joining). j.object) (joining_named joining x))) []) live
    ∙ ap (λ o. option_map_or (λ (t : Object). t.needed) (option_or (object_at p m) (option_map (λ (j : Joining). j.object) o)) []) (not_joined p joining x m new live)
    ∙ ap (λ o. option_map_or (λ (t : Object). t.needed) o []) (or_none (object_at p m))
    ∙ sym (ap (λ o. option_map_or (λ k. option_map_or (λ (t : Object). t.needed) (object_at p k) []) o file) live)

needs_new : (p : SymbolicProcess) (told : Files) (joining : List Joining) (x : List ℕ) → HasJoined told joining x → number_of p x ≡ None → needed_by p joining x ≡ told_needs p told x
unfolding told_needs
needs_new p told joining x h new =
    let file : Option Object = option_map object_of (get told x) in
    ap (λ o. option_map_or (λ (t : Object). t.needed) (option_or (option_and_then (object_at p) o) (option_map (λ (j : Joining). j.object) (joining_named joining x))) []) new
    ∙ ap (λ o. option_map_or (λ (t : Object). t.needed) (option_map (λ (j : Joining). j.object) o) []) h.found
    ∙ sym (ap (λ o. option_map_or (λ (t : Object). t.needed) o []) (file_object told x h.joined.object (get told x) refl h.file))
    ∙ sym (ap (λ o. option_map_or (λ k. option_map_or (λ (t : Object). t.needed) (object_at p k) []) o (option_map_or (λ (t : Object). t.needed) file [])) new)

-- the names of a walk, by the files alone
pub told_names : (p : SymbolicProcess) (told : Files) (root : List ℕ) (n : ℕ) (joining : List Joining) (names : Names) → IsWalked p (Some told) root n joining names → names ≡ found_after (told_needs p told) root n
told_names p told root n joining names w = w.names' ∙ agree (needed_by p joining) (told_needs p told) root n same
  where
    by_number : (x : List ℕ) (k : ℕ) → k < n → slice_get names k ≡ Some x → (o : Option ℕ) → number_of p x ≡ o → needed_by p joining x ≡ told_needs p told x
    by_number x k lt here None is = needs_new p told joining x (has_joined p told root n joining names k x w lt here is) is
    by_number x k lt here (Some m) is = needs_live p told joining x m (names_new p (Some told) root n joining names w) is

    same : (k : ℕ) (x : List ℕ) → k < n → slice_get (found_after (needed_by p joining) root k) k ≡ Some x → needed_by p joining x ≡ told_needs p told x
    same k x lt here =
        let there : slice_get names k ≡ Some x = ap (λ l. slice_get l k) w.names' ∙ stays (needed_by p joining) root k n k x (omega arith) here in
        by_number x k lt there (number_of p x) refl
