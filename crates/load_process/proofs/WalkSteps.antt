-- The walk after one more name.
use Rattle.std.proofs.Common.{◌≡◌, ◌≢◌, ℕ, suc, ◌+◌, ◌<◌, ◌≤◌, inl, inr, Bool, true, false, cond, List, [], ◌∷◌, ◌++◌, length, get_or, take, map, refl, sym, ap, ◌∙◌, subst, arith, All, Option, Some, None}
use Rattle.std.specs.Prelude.{AllPairs, slice_get, filter, is_none}
use Rattle.std.specs.Str.{bytes_eq}
use Rattle.std.proofs.lemmas.List.{append-nil, map_push, take_more, length_push}
use Rattle.std.proofs.lemmas.List.Elements.{All-push, All-nil, All-filter, filter-append}
use Rattle.std.proofs.lemmas.Option.{slice_get_within, get_or_from_slice_get}
use Rattle.fd_base.specs.Fetched.{Files}
use Rattle.symbol_scope.specs.Closure.{with_new}
use Rattle.symbol_scope.proofs.Growing.{length-with_new}
use Rattle.load_model.specs.declared.module.Joining.{Joining}
use Rattle.load_model.specs.declared.module.SymbolicProcess.{SymbolicProcess}
use Rattle.load_model.specs.Process.{number_of, free_numbers}
use Rattle.load_model.specs.Walk.{FileIs, number_among, needed_by, found_after, IsWalked}
use Rattle.load_process.specs.parts.WalkSteps.{IsLooked, IsNumbered}
use Rattle.load_process.proofs.BreadthFirst.{Names, stays, found_next, found_once, agree, apart, take_next}
use Rattle.load_process.proofs.Needs.{number_more, number_new, number_live, needed_more}
use Rattle.fd_base.proofs.Lists.{all_unmapped}

-- ---- the names of a walk

pub names_once : (p : SymbolicProcess) (files : Option Files) (root : List ℕ) (n : ℕ) (joining : List Joining) (names : Names) → IsWalked p files root n joining names → AllPairs (λ x y. x ≢ y) names
names_once p files root n joining names w = subst (AllPairs (λ x y. x ≢ y)) (sym w.names') (found_once (needed_by p joining) root n)

-- no module that joined has the next name
pub others : (p : SymbolicProcess) (files : Option Files) (root : List ℕ) (n : ℕ) (joining : List Joining) (names : Names) (name : List ℕ) → IsWalked p files root n joining names → slice_get names n ≡ Some name
    → All (λ j. j.name ≢ name) joining
others p files root n joining names name w e =
    let before = apart names n name (names_once p files root n joining names w) e in
    let named : All (λ x. x ≢ name) (map (λ (j : Joining). j.name) joining) =
    subst (All (λ x. x ≢ name)) (sym w.fresh) (All-filter (λ x. is_none (number_of p x)) (λ x. x ≢ name) (take n names) before) in
    all_unmapped (λ x. x ≢ name) (λ (j : Joining). j.name) joining named

-- the names at the first places, once more modules need the same
pub same_names : (p : SymbolicProcess) (joining : List Joining) (root : List ℕ) (n : ℕ) (j : Joining) (names : Names) → names ≡ found_after (needed_by p joining) root n → slice_get names n ≡ Some j.name
    → names ≡ found_after (needed_by p (joining ++ j ∷ [])) root n
same_names p joining root n j names is e =
    is ∙ agree (needed_by p joining) (needed_by p (joining ++ j ∷ [])) root n (λ k x lt here. sym (needed_more p joining j x (differs k x lt here)))
  where
    differs : (k : ℕ) (x : List ℕ) → k < n → slice_get (found_after (needed_by p joining) root k) k ≡ Some x → x ≢ j.name
    differs k x lt here same =
        let once : AllPairs (λ x y. x ≢ y) names = subst (AllPairs (λ x y. x ≢ y)) (sym is) (found_once (needed_by p joining) root n) in
        let there : slice_get names k ≡ Some x = ap (λ l. slice_get l k) is ∙ stays (needed_by p joining) root k n k x (omega arith) here in
        let within : n < length names = slice_get_within names n j.name e in
        once k n x lt within (get_or_from_slice_get names k x x there ∙ same ∙ sym (get_or_from_slice_get names n j.name x e))

-- ---- filters of one more name

filter_next : (p : List ℕ → Bool) (names more : Names) (n : ℕ) (name : List ℕ) (b : Bool) → slice_get names n ≡ Some name → p name ≡ b
    → filter p (take (suc n) (with_new bytes_eq names more)) ≡ filter p (take n names) ++ cond b (name ∷ []) []
filter_next p names more n name b e is =
    ap (filter p) (take_next names more n name e) ∙ filter-append p (take n names) (name ∷ [])
    ∙ ap (λ c. filter p (take n names) ++ cond c (name ∷ []) []) is

-- ---- the walk

pub start : (p : SymbolicProcess) (files : Option Files) (root : List ℕ) → IsWalked p files root 0 [] (root ∷ [])
start p files root = record {
  names' = refl;
  looked = omega arith;
  fresh = refl;
  few = omega arith;
  numbers = refl;
  files' = All-nil (λ (j : Joining). FileIs files j.name j.object);
}

looked_more : (names more : Names) (n : ℕ) (name : List ℕ) → slice_get names n ≡ Some name → suc n ≤ length (with_new bytes_eq names more)
looked_more names more n name e =
    let lt : n < length names = slice_get_within names n name e in
    omega (arith, length-with_new bytes_eq names more)

pub live_more : (p : SymbolicProcess) (files : Option Files) (root : List ℕ) (n : ℕ) (joining : List Joining) (names : Names) (name : List ℕ) (m : ℕ) → IsWalked p files root n joining names
    → slice_get names n ≡ Some name → number_of p name ≡ Some m → IsWalked p files root (suc n) joining (with_new bytes_eq names (needed_by p joining name))
live_more p files root n joining names name m w e live =
    let needs = needed_by p joining in
    let here : slice_get (found_after needs root n) n ≡ Some name = ap (λ l. slice_get l n) (sym w.names') ∙ e in
    record {
      names' = ap (λ l. with_new bytes_eq l (needs name)) w.names' ∙ sym (found_next needs root n name here);
      looked = looked_more names (needs name) n name e;
      fresh = w.fresh ∙ sym (filter_next (λ x. is_none (number_of p x)) names (needs name) n name false e (ap is_none live) ∙ append-nil (filter (λ x. is_none (number_of p x)) (take n names)));
      few = w.few;
      numbers = w.numbers;
      files' = w.files';
    }

pub new_more : (p : SymbolicProcess) (files : Option Files) (root : List ℕ) (n : ℕ) (joining : List Joining) (names : Names) (j : Joining) → IsWalked p files root n joining names
    → slice_get names n ≡ Some j.name → number_of p j.name ≡ None → slice_get (free_numbers p) (length joining) ≡ Some j.number → FileIs files j.name j.object
    → IsWalked p files root (suc n) (joining ++ j ∷ []) (with_new bytes_eq names (needed_by p (joining ++ j ∷ []) j.name))
new_more p files root n joining names j w e new number file =
    let more = joining ++ j ∷ [] in
    let needs = needed_by p more in
    let free = free_numbers p in
    let is : names ≡ found_after needs root n = same_names p joining root n j names w.names' e in
    let here : slice_get (found_after needs root n) n ≡ Some j.name = ap (λ l. slice_get l n) (sym is) ∙ e in
    let within : length joining < length free = slice_get_within free (length joining) j.number number in
    let long : length more ≡ length joining + 1 = length_push joining j in
    record {
      names' = ap (λ l. with_new bytes_eq l (needs j.name)) is ∙ sym (found_next needs root n j.name here);
      looked = looked_more names (needs j.name) n j.name e;
      fresh = map_push (λ (k : Joining). k.name) joining j ∙ ap (λ l. l ++ j.name ∷ []) w.fresh
          ∙ sym (filter_next (λ x. is_none (number_of p x)) names (needs j.name) n j.name true e (ap is_none new));
      few = omega arith;
      numbers = map_push (λ (k : Joining). k.number) joining j ∙ ap (λ l. l ++ j.number ∷ []) w.numbers
          ∙ ap (λ x. take (length joining) free ++ x ∷ []) (sym (get_or_from_slice_get free (length joining) j.number j.number number))
          ∙ sym (take_more free (length joining) j.number within) ∙ ap (λ m. take m free) (sym long);
      files' = All-push (λ (k : Joining). FileIs files k.name k.object) joining j w.files' file;
    }

-- ---- the numbers

map_same : (f g : List ℕ → Option ℕ) (xs : Names) → All (λ x. f x ≡ g x) xs → map f xs ≡ map g xs
map_same f g [] all = refl
map_same f g (x ∷ xs) all =
    let head : f x ≡ g x = all 0 x (omega arith) in
    let rest : map f xs ≡ map g xs = map_same f g xs (λ k d lt. all (suc k) d (omega (arith, lt))) in
    cc

each_more : (f : List ℕ → Option ℕ) (names more : Names) (n : ℕ) (name : List ℕ) (members : List ℕ) (m : ℕ) → slice_get names n ≡ Some name → map Some members ≡ map f (take n names) → f name ≡ Some m
    → map Some (members ++ m ∷ []) ≡ map f (take (suc n) (with_new bytes_eq names more))
each_more f names more n name members m e each is =
    map_push Some members m ∙ ap (λ l. l ++ Some m ∷ []) each ∙ ap (λ o. map f (take n names) ++ o ∷ []) (sym is)
    ∙ sym (map_push f (take n names) name) ∙ ap (map f) (sym (take_next names more n name e))

pub numbered_start : (p : SymbolicProcess) (files : Option Files) (root : List ℕ) → IsNumbered p files root 0 [] (root ∷ []) []
numbered_start p files root = record { walked = start p files root; each = refl }

pub numbered_more : (p : SymbolicProcess) (files : Option Files) (root : List ℕ) (n : ℕ) (joining after : List Joining) (names found : Names) (members : List ℕ) (name : List ℕ) (number : ℕ)
    → IsNumbered p files root n joining names members → slice_get names n ≡ Some name → IsLooked p files name joining number after → found ≡ with_new bytes_eq names (needed_by p after name)
    → IsNumbered p files root (suc n) after found (members ++ number ∷ [])
numbered_more p files root n joining after names found members name number w e looked is = elim looked [
  | inl live ↦
      let plain : IsNumbered p files root (suc n) joining (with_new bytes_eq names (needed_by p joining name)) (members ++ number ∷ []) = record {
        walked = live_more p files root n joining names name number w.walked e live.0;
        each = each_more (number_among p joining) names (needed_by p joining name) n name members number e w.each (number_live p joining name number live.0);
      } in
      let moved : IsNumbered p files root (suc n) after (with_new bytes_eq names (needed_by p after name)) (members ++ number ∷ []) =
      subst (λ js. IsNumbered p files root (suc n) js (with_new bytes_eq names (needed_by p js name)) (members ++ number ∷ [])) (sym live.1) plain in
      subst (λ l. IsNumbered p files root (suc n) after l (members ++ number ∷ [])) (sym is) moved
  | inr new ↦
      let j = new.added in
      let m = new.module' in
      let plain = new_numbered j m.name' new.fresh m.number' m.file in
      let counted = subst (λ k. IsNumbered p files root (suc n) (joining ++ j ∷ []) (with_new bytes_eq names (needed_by p (joining ++ j ∷ []) name)) (members ++ k ∷ [])) new.number' plain in
      let moved : IsNumbered p files root (suc n) after (with_new bytes_eq names (needed_by p after name)) (members ++ number ∷ []) =
      subst (λ js. IsNumbered p files root (suc n) js (with_new bytes_eq names (needed_by p js name)) (members ++ number ∷ [])) (sym new.joined) counted in
      subst (λ l. IsNumbered p files root (suc n) after l (members ++ number ∷ [])) (sym is) moved
]
  where
    new_numbered : (j : Joining) → j.name ≡ name → number_of p name ≡ None → slice_get (free_numbers p) (length joining) ≡ Some j.number → FileIs files name j.object
        → IsNumbered p files root (suc n) (joining ++ j ∷ []) (with_new bytes_eq names (needed_by p (joining ++ j ∷ []) name)) (members ++ j.number ∷ [])
    new_numbered j named new free file =
        let more = joining ++ j ∷ [] in
        let once = names_once p files root n joining names w.walked in
        let here : slice_get names n ≡ Some j.name = e ∙ ap Some (sym named) in
        let fresh : number_of p j.name ≡ None = ap (number_of p) named ∙ new in
        let told : FileIs files j.name j.object = subst (λ x. FileIs files x j.object) (sym named) file in
        let walked = new_more p files root n joining names j w.walked here fresh free told in
        let apart_of = apart names n j.name once here in
        let same : map (number_among p joining) (take n names) ≡ map (number_among p more) (take n names) =
        map_same (number_among p joining) (number_among p more) (take n names) (λ k d lt. sym (number_more p joining j (get_or (take n names) k d) (apart_of k d lt))) in
        record {
          walked = subst (λ x. IsWalked p files root (suc n) more (with_new bytes_eq names (needed_by p more x))) named walked;
          each = each_more (number_among p more) names (needed_by p more name) n name members j.number e (w.each ∙ same)
              (number_new p joining j name named (others p files root n joining names name w.walked e) new);
        }

-- a name that is read twice
pub needed_twice : (p : SymbolicProcess) (first after : List Joining) (x y : List ℕ) (names more found : Names) → more ≡ needed_by p first x → first ≡ after → x ≡ y → found ≡ with_new bytes_eq names more
    → found ≡ with_new bytes_eq names (needed_by p after y)
needed_twice p first after x y names more found is js same step =
    step ∙ ap (with_new bytes_eq names) (is ∙ ap (λ l. needed_by p l x) js ∙ ap (needed_by p after) same)
