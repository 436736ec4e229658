-- A load keeps a process valid.
use Rattle.std.proofs.Common.{◌≡◌, ◌≢◌, ℕ, zero, suc, ◌+◌, ◌-◌, ◌≤◌, ◌⊎◌, inl, inr, Bool, true, false, cond, ◌||◌, Option, Some, None, List, [], ◌∷◌, ◌++◌, length, get_or, set, refl, sym, ap, ◌∙◌, subst, arith, All, length-set, length-append, append_assoc}
use Rattle.std.specs.Prelude.{is_some, is_none, option_and_then, nat_eq, option_map, Contains, AllPairs, IsSomeAnd, if◌then◌else◌}
use Rattle.std.specs.Option.{option_or, option_map_or}
use Rattle.std.specs.List.{position_from, list_all}
use Rattle.std.specs.Str.{bytes_eq}
use Rattle.std.proofs.lemmas.Slice.Eq.{bytes_eq-Decides}
use Rattle.std.proofs.lemmas.Bool.{false≢true}
use Rattle.std.proofs.lemmas.Bool.Decides.{Decides-eqb}
use Rattle.std.proofs.lemmas.Iterator.Adapters.{position_from-zero}
use Rattle.std.proofs.lemmas.List.{append-nil, get_or_append_left, get_or-append-add}
use Rattle.std.proofs.lemmas.List.Elements.{All-contains, All-weaker}
use Rattle.fd_base.proofs.Options.{one_value, some_of, of_some_and, some_and}
use Rattle.symbol_scope.specs.Closure.{has, with_new}
use Rattle.symbol_scope.proofs.Growing.{has_contained, contained_has, kept, gained, once_more, All-with_new}
use Rattle.load_model.specs.declared.module.Group.{Group}
use Rattle.load_model.specs.declared.module.Joining.{Joining}
use Rattle.load_model.specs.declared.module.Live.{Live}
use Rattle.load_model.specs.declared.module.SymbolicProcess.{SymbolicProcess}
use Rattle.load_model.specs.Joined.{Asked, is_empty, live_from, modules_after, group_of, groups_after, global_after}
use Rattle.load_model.specs.Linkage.{joining_at, closure_of}
use Rattle.load_model.proofs.FirstFlags.{flags_count, set_has_call}
use Rattle.load_model.specs.Process.{live_at, is_live, is_live_named, number_of, group_at, group_scope, object_at}
use Rattle.load_model.specs.Validity.{IsMember, IsGroup, IsValid}
use Rattle.load_model.specs.Walk.{joining_named, number_among, needed_by}
use Rattle.load_process.specs.parts.LoadedProcess.{scope_after, loaded}
use Rattle.fd_base.proofs.Finding.{find_some}
use Rattle.fd_base.proofs.Members.{filter_map_in, in_filter_map, all_contained}
use Rattle.fd_base.proofs.Lists.{once-filter_map, one_of}
use Rattle.load_process.proofs.NumberedPlaces.{at_place}
use Rattle.load_process.proofs.WalkFacts.{Facts, at_number, number_found, name_found}
use Rattle.load_process.proofs.ModulesAfter.{new_after, stays_after, came_from, group_new, group_left, group_came_from, scope_new, scope_old}

-- ---- numbers of names

named_from : (name : List ℕ) (k n : ℕ) (places : List (Option Live)) → position_from (is_live_named name) k places ≡ Some n
    → (live : Live) × (k ≤ n) × (at_place places (n - k) ≡ Some live) × (live.name ≡ name)
named_from name k n [] e = cc
named_from name k n (place ∷ places) e =
    elim (is_live_named name place) as (λ b. is_live_named name place ≡ b → cond b (Some k) (position_from (is_live_named name) (k + 1) places) ≡ Some n → (live : Live) × (k ≤ n) × (at_place (place ∷ places) (n - k) ≡ Some live) × (live.name ≡ name)) [
      | true ↦ λ t f.
          let same : k ≡ n = cc in
          let none : n - k ≡ 0 = omega arith in
          let is = named place t in
          (is.0, omega arith, ap (at_place (place ∷ places)) none ∙ is.1, is.2)
      | false ↦ λ t f.
          let rest = named_from name (k + 1) n places f in
          let le : k + 1 ≤ n = rest.1 in
          let next : n - k ≡ suc (n - (k + 1)) = omega arith in
          (rest.0, omega arith, ap (at_place (place ∷ places)) next ∙ rest.2, rest.3)
    ] refl e
  where
    named : (place : Option Live) → is_live_named name place ≡ true → (live : Live) × (place ≡ Some live) × (live.name ≡ name)
    named None t = absurd (false≢true t)
    named (Some live) t = (live, refl, (bytes_eq-Decides live.name name).0 t)

-- a number of a name is that of a live module of the name
pub number_named : (p : SymbolicProcess) (name : List ℕ) (n : ℕ) → number_of p name ≡ Some n → (live : Live) × (live_at p n ≡ Some live) × (live.name ≡ name)
number_named p name n e =
    let from = named_from name 0 n p.modules (sym (position_from-zero (is_live_named name) p.modules) ∙ e) in
    let same : n - 0 ≡ n = omega arith in
    (from.0, ap (at_place p.modules) (sym same) ∙ from.2, from.3)

found_from : (name : List ℕ) (k m : ℕ) (live : Live) (places : List (Option Live)) → at_place places m ≡ Some live → live.name ≡ name → (n : ℕ) × (position_from (is_live_named name) k places ≡ Some n)
found_from name k m live [] e same = cc
found_from name k zero live (place ∷ places) e same =
    let t : is_live_named name place ≡ true = ap (is_live_named name) e ∙ (bytes_eq-Decides live.name name).1 same in
    (k, ap (λ b. cond b (Some k) (position_from (is_live_named name) (k + 1) places)) t)
found_from name k (suc m) live (place ∷ places) e same =
    let rest = found_from name (k + 1) m live places e same in
    elim (is_live_named name place) as (λ b. (n : ℕ) × (cond b (Some k) (position_from (is_live_named name) (k + 1) places) ≡ Some n)) [
      | true ↦ (k, refl)
      | false ↦ rest
    ]

abbrev pub HasNamesOnce : SymbolicProcess → Type 0
HasNamesOnce p = (m n : ℕ) (a b : Live) → live_at p m ≡ Some a → live_at p n ≡ Some b → a.name ≡ b.name → m ≡ n

-- where no two live modules have one name, each is found by its own
pub named_number : (p : SymbolicProcess) (name : List ℕ) (m : ℕ) (live : Live) → HasNamesOnce p → live_at p m ≡ Some live → live.name ≡ name → number_of p name ≡ Some m
named_number p name m live once e same =
    let there = found_from name 0 m live p.modules e same in
    let found : number_of p name ≡ Some there.0 = position_from-zero (is_live_named name) p.modules ∙ there.1 in
    let is = number_named p name there.0 found in
    found ∙ ap Some (once there.0 m is.0 live is.1 e (is.2 ∙ sym same))

-- ---- members of a scope

pub in_scope_old : (seen more : List ℕ) (n : ℕ) → Contains seen n → Contains (with_new nat_eq seen more) n
in_scope_old seen more n c = contained_has nat_eq Decides-eqb (with_new nat_eq seen more) n (kept nat_eq seen more n (has_contained nat_eq Decides-eqb seen n c))

pub in_scope_new : (seen more : List ℕ) (n : ℕ) → Contains more n → Contains (with_new nat_eq seen more) n
in_scope_new seen more n c = contained_has nat_eq Decides-eqb (with_new nat_eq seen more) n (gained nat_eq Decides-eqb seen more n (has_contained nat_eq Decides-eqb more n c))

module _ (p : SymbolicProcess) (joining : List Joining) (names : List (List ℕ)) (facts : Facts p joining names) (valid : IsValid p) (asked : Asked) where
  abbrev scope : List ℕ
  scope = scope_after p joining names

  abbrev global : List ℕ
  global = global_after p asked.global scope

  abbrev q : SymbolicProcess
  q = loaded p joining names asked

  abbrev came : (m : ℕ) (live : Live) → live_at q m ≡ Some live → ((j : Joining) × (joining_at joining m ≡ Some j) × (live ≡ live_from asked.lazy (group_of joining) j)) ⊎ (live_at p m ≡ Some live)
  came = came_from p joining names facts valid asked.lazy scope global

  -- a new module has no live one's name
  new_name : (m n : ℕ) (j : Joining) (a b : Live) → joining_at joining m ≡ Some j → a ≡ live_from asked.lazy (group_of joining) j → live_at p n ≡ Some b → a.name ≡ b.name → ⊥
  new_name m n j a b e is f same =
      let name : b.name ≡ j.name = sym same ∙ ap (λ l. l.name) is in
      let old : number_of p j.name ≡ Some n = named_number p j.name n b valid.names f name in
      let none : number_of p j.name ≡ None = All-contains (λ j. number_of p j.name ≡ None) joining j facts.new (at_number p joining m j e).0 in
      cc

  pub names_once : HasNamesOnce q
  names_once m n a b e f same = elim (came m a e) [
    | inl x ↦ elim (came n b f) [
      | inl y ↦
          let mine = at_number p joining m x.0 x.1 in
          let theirs = at_number p joining n y.0 y.1 in
          let one = one_of (λ j. j.name) joining x.0 y.0 facts.distinct mine.0 theirs.0 (sym (ap (λ l. l.name) x.2) ∙ same ∙ ap (λ l. l.name) y.2) in
          sym mine.1 ∙ ap (λ j. j.number) one ∙ theirs.1
      | inr y ↦ absurd (new_name m n x.0 a b x.1 x.2 y same)
    ]
    | inr x ↦ elim (came n b f) [
      | inl y ↦ absurd (new_name n m y.0 b a y.1 y.2 x (sym same))
      | inr y ↦ valid.names m n a b x y same
    ]
  ]

  -- a new module is live, by its number
  pub new_live : (j : Joining) → Contains joining j → live_at q j.number ≡ Some (live_from asked.lazy (group_of joining) j)
  new_live j c = new_after p joining names facts valid asked.lazy scope global j.number j (number_found joining j facts.apart c)

  among_new : (name : List ℕ) (n : ℕ) (o : Option Joining) → joining_named joining name ≡ o → option_map (λ j. j.number) o ≡ Some n → (live : Live) × (live_at q n ≡ Some live) × (live.name ≡ name)
  among_new name n None e f = cc
  among_new name n (Some j) e f =
      let at = find_some (λ j. bytes_eq j.name name) joining j e in
      let same : j.number ≡ n = cc in
      (live_from asked.lazy (group_of joining) j, ap (live_at q) (sym same) ∙ new_live j at.0, (bytes_eq-Decides j.name name).0 at.1)

  -- the name of a live or new module leads to its number
  pub among_after : (name : List ℕ) (n : ℕ) → number_among p joining name ≡ Some n → (live : Live) × (live_at q n ≡ Some live) × (live.name ≡ name)
  among_after name n e = elim (number_of p name) as (λ o. number_of p name ≡ o → option_or o (option_map (λ j. j.number) (joining_named joining name)) ≡ Some n → (live : Live) × (live_at q n ≡ Some live) × (live.name ≡ name)) [
    | None ↦ λ f g. among_new name n (joining_named joining name) refl g
    | Some m ↦ λ f g.
        let same : m ≡ n = cc in
        let is = number_named p name m f in
        (is.0, ap (live_at q) (sym same) ∙ stays_after p joining names facts valid asked.lazy scope global m is.0 is.1, is.2)
  ] refl e

  among_all : (name : List ℕ) → Contains names name → (n : ℕ) × (number_among p joining name ≡ Some n)
  among_all name c = elim (number_of p name) as (λ o. number_of p name ≡ o → (n : ℕ) × (option_or o (option_map (λ j. j.number) (joining_named joining name)) ≡ Some n)) [
    | None ↦ λ e.
        let new = facts.all name c e in
        (new.0.number, ap (option_map (λ j. j.number)) (ap (joining_named joining) (sym new.2) ∙ name_found joining new.0 facts.distinct new.1))
    | Some m ↦ λ e. (m, refl)
  ] refl

  -- each name of the walk is that of a live module in the new scope
  pub name_after : (name : List ℕ) → Contains names name → (n : ℕ) × (number_of q name ≡ Some n) × Contains scope n
  name_after name c =
      let among = among_all name c in
      let is = among_after name among.0 among.1 in
      (among.0, named_number q name among.0 is.0 names_once is.1 is.2, in_scope_new p.global (closure_of p joining names) among.0 (filter_map_in (number_among p joining) names name among.0 c among.1))

  still_live : (n : ℕ) → is_live p n ≡ true → is_live q n ≡ true
  still_live n e = let live = some_of (live_at p n) e in ap is_some (stays_after p joining names facts valid asked.lazy scope global n live.0 live.1)

  closure_live : All (λ n. is_live q n ≡ true) (closure_of p joining names)
  closure_live = all_contained (λ n. is_live q n ≡ true) (closure_of p joining names)
      (λ n c. let from = in_filter_map (number_among p joining) names n c in ap is_some (among_after from.0 n from.2).1)

  old_live : (ns : List ℕ) → All (λ n. is_live p n ≡ true) ns → All (λ n. is_live q n ≡ true) ns
  old_live ns all = All-weaker (λ n. is_live p n ≡ true) (λ n. is_live q n ≡ true) still_live ns all

  pub scope_live : All (λ n. is_live q n ≡ true) scope
  scope_live = All-with_new nat_eq (λ n. is_live q n ≡ true) p.global (closure_of p joining names) (old_live p.global valid.global') closure_live

  global_live : All (λ n. is_live q n ≡ true) global
  global_live = elim (asked.global || is_empty p) as (λ b. All (λ n. is_live q n ≡ true) (if b then scope else p.global)) [
    | true ↦ scope_live
    | false ↦ old_live p.global valid.global'
  ]

  global_once : AllPairs (λ m n. m ≢ n) global
  global_once = elim (asked.global || is_empty p) as (λ b. AllPairs (λ m n. m ≢ n) (if b then scope else p.global)) [
    | true ↦ once_more nat_eq Decides-eqb p.global (closure_of p joining names) valid.once
    | false ↦ valid.once
  ]

  -- ---- members

  needed_new : (j : Joining) → Contains joining j → needed_by p joining j.name ≡ j.object.needed
  needed_new j c =
      let none : number_of p j.name ≡ None = All-contains (λ j. number_of p j.name ≡ None) joining j facts.new c in
      ap (λ o. option_map_or (λ x. x.needed) (option_or (option_and_then (object_at p) o) (option_map (λ k. k.object) (joining_named joining j.name))) []) none
      ∙ ap (λ o. option_map_or (λ x. x.needed) (option_map (λ k. k.object) o) []) (name_found joining j facts.distinct c)

  member_new : (m : ℕ) (j : Joining) → joining_at joining m ≡ Some j → IsMember q m (live_from asked.lazy (group_of joining) j)
  member_new m j e =
      let at = at_number p joining m j e in
      record {
        grouped = λ none. let some = group_new p joining names facts valid asked.lazy scope global m j e in cc;
        needs = all_contained (λ name. IsSomeAnd (number_of q name) (λ n. Contains (group_scope q m) n)) j.object.needed (λ name c.
            let named = All-contains (λ j. Contains names j.name) joining j facts.named at.0 in
            let is = name_after name (facts.closed j.name name named (subst (λ l. Contains l name) (sym (needed_new j at.0)) c)) in
            some_and (λ n. Contains (group_scope q m) n) (number_of q name) is.0 is.1 (subst (λ l. Contains l is.0) (sym (scope_new p joining names facts valid asked.lazy scope global m j e)) is.2));
        flags = flags_count asked.lazy j.object;
        calls = set_has_call asked.lazy j.object;
      }

  member_old : (m : ℕ) (live : Live) → live_at p m ≡ Some live → IsMember q m live
  member_old m live e =
      let member = valid.members m live e in
      record {
        grouped = λ none. member.grouped (sym (group_left p joining names facts valid asked.lazy scope global m live e) ∙ none);
        needs = all_contained (λ name. IsSomeAnd (number_of q name) (λ n. Contains (group_scope q m) n)) live.object.needed (λ name c.
            let had = of_some_and (λ n. Contains (group_scope p m) n) (number_of p name) (All-contains (λ name. IsSomeAnd (number_of p name) (λ n. Contains (group_scope p m) n)) live.object.needed name member.needs c) in
            let is = number_named p name had.0 had.1 in
            let number = named_number q name had.0 is.0 names_once (stays_after p joining names facts valid asked.lazy scope global had.0 is.0 is.1) is.2 in
            some_and (λ n. Contains (group_scope q m) n) (number_of q name) had.0 number (subst (λ l. Contains l had.0) (sym (scope_old p joining names facts valid asked.lazy scope global m live e)) had.2));
        flags = member.flags;
        calls = member.calls;
      }

  member_after : (m : ℕ) (live : Live) → live_at q m ≡ Some live → IsMember q m live
  member_after m live e = elim (came m live e) [
    | inl x ↦ subst (IsMember q m) (sym x.2) (member_new m x.0 x.1)
    | inr x ↦ member_old m live x
  ]

  group_after : (g : ℕ) (group : Group) → group_at q g ≡ Some group → IsGroup q g group
  group_after g group e = elim (group_came_from p joining names facts valid asked.lazy scope global g group e) [
    | inl x ↦ record {
      founder = some_and (λ live. live.group ≡ g) (live_at q g) (live_from asked.lazy (group_of joining) x.0) (ap (live_at q) (x.3 ∙ x.2) ∙ new_live x.0 x.1) (sym x.3);
      scope' = subst (λ l. All (λ n. is_live q n ≡ true) l.scope) (sym x.4) scope_live;
    }
    | inr x ↦
        let old = valid.scopes g group x in
        let live = of_some_and (λ live. live.group ≡ g) (live_at p g) old.founder in
        record {
          founder = some_and (λ live. live.group ≡ g) (live_at q g) live.0 (stays_after p joining names facts valid asked.lazy scope global g live.0 live.1) live.2;
          scope' = old_live group.scope old.scope';
        }
  ]

  length-modules_after : (modules : List (Option Live)) (lazy : Bool) (group : ℕ) (js : List Joining) → length (modules_after modules lazy group js) ≡ length modules
  length-modules_after modules lazy group [] = refl
  length-modules_after modules lazy group (j ∷ js) =
      length-modules_after (set modules j.number (Some (live_from lazy group j))) lazy group js ∙ length-set modules j.number (Some (live_from lazy group j))

  length-groups_after : (groups : List (Option Group)) (js : List Joining) → length (groups_after groups js scope) ≡ length groups
  length-groups_after groups [] = refl
  length-groups_after groups (j ∷ js) = length-set groups j.number (Some (record { scope = scope }))

  pub valid_after : IsValid q
  valid_after = record {
    modules' = length-modules_after p.modules asked.lazy (group_of joining) joining ∙ valid.modules';
    groups' = length-groups_after p.groups joining ∙ valid.groups';
    names = names_once;
    members = member_after;
    scopes = group_after;
    global' = global_live;
    once = global_once;
  }

  -- ---- the closure

  pub closure_once : AllPairs (λ m n. m ≢ n) (closure_of p joining names)
  closure_once = once-filter_map (number_among p joining) names (λ a b n e f.
      let mine = among_after a n e in
      let theirs = among_after b n f in
      let same : mine.0 ≡ theirs.0 = one_value (live_at q n) mine.0 theirs.0 mine.1 theirs.1 in
      sym mine.2 ∙ ap (λ live. live.name) same ∙ theirs.2) facts.once

nothing_in : (places : List (Option Live)) (m : ℕ) → list_all (λ place. is_none place) places ≡ true → at_place places m ≡ None
nothing_in [] m e = refl
nothing_in (None ∷ places) zero e = refl
nothing_in (Some live ∷ places) zero e = absurd (false≢true e)
nothing_in (None ∷ places) (suc m) e = nothing_in places m e
nothing_in (Some live ∷ places) (suc m) e = absurd (false≢true e)

none_live : (p : SymbolicProcess) (ns : List ℕ) → is_empty p ≡ true → All (λ n. is_live p n ≡ true) ns → ns ≡ []
none_live p [] e all = refl
none_live p (n ∷ ns) e all = absurd (false≢true (sym (ap is_some (nothing_in p.modules n e)) ∙ all zero n (omega arith)))

new_one : (seen xs : List ℕ) (x : ℕ) → AllPairs (λ m n. m ≢ n) (seen ++ x ∷ xs) → has nat_eq seen x ≡ false
new_one seen xs x once = elim (has nat_eq seen x) as (λ b. has nat_eq seen x ≡ b → b ≡ false) [
  | true ↦ λ e.
      let c = contained_has nat_eq Decides-eqb seen x e in
      let low : get_or (seen ++ x ∷ xs) c.0 x ≡ x = get_or_append_left seen (x ∷ xs) x c.0 c.1 ∙ c.2 in
      let high : get_or (seen ++ x ∷ xs) (length seen + 0) x ≡ x = get_or-append-add seen (x ∷ xs) 0 x in
      absurd (once c.0 (length seen + 0) x (omega (arith, c.1)) (omega (arith, length-append seen (x ∷ xs))) (low ∙ sym high))
  | false ↦ λ e. refl
] refl

-- numbers of which each is there once are added whole
pub with_all : (seen xs : List ℕ) → AllPairs (λ m n. m ≢ n) (seen ++ xs) → with_new nat_eq seen xs ≡ seen ++ xs
with_all seen [] once = sym (append-nil seen)
with_all seen (x ∷ xs) once =
    let joined : (seen ++ x ∷ []) ++ xs ≡ seen ++ x ∷ xs = append_assoc seen (x ∷ []) xs in
    ap (λ b. with_new nat_eq (if b then seen else seen ++ x ∷ []) xs) (new_one seen xs x once)
    ∙ with_all (seen ++ x ∷ []) xs (subst (AllPairs (λ m n. m ≢ n)) (sym joined) once) ∙ joined

pub first_scope : (p : SymbolicProcess) (joining : List Joining) (names : List (List ℕ)) → Facts p joining names → IsValid p → is_empty p ≡ true → scope_after p joining names ≡ closure_of p joining names
first_scope p joining names facts valid empty =
    ap (λ l. with_new nat_eq l (closure_of p joining names)) (none_live p p.global empty valid.global')
    ∙ with_all [] (closure_of p joining names) (closure_once p joining names facts valid (record { global = false; lazy = false }))
