-- The modules that stay are a process.
use Rattle.std.proofs.Common.{◌≡◌, ◌≢◌, ℕ, true, false, not, List, [], Option, Some, refl, sym, ap, subst, ◌∙◌, All}
use Rattle.std.specs.Prelude.{is_some, option_and_then, Contains, IsSomeAnd}
use Rattle.std.specs.Option.{option_map_or}
use Rattle.std.proofs.lemmas.Bool.{not-true}
use Rattle.std.proofs.lemmas.List.Elements.{All-contains}
use Rattle.std.proofs.lemmas.List.Kept.{AllPairs-filter}
use Rattle.fd_base.proofs.Members.{all_contained, in_filter}
use Rattle.fd_base.proofs.Options.{of_some_and, some_and}
use Rattle.load_model.specs.declared.module.Group.{Group}
use Rattle.load_model.specs.declared.module.Live.{Live}
use Rattle.load_model.specs.declared.module.SymbolicProcess.{SymbolicProcess}
use Rattle.load_model.specs.Process.{live_at, is_live, group_at, group_scope, number_of}
use Rattle.load_model.specs.Validity.{IsGroup, IsMember, IsValid}
use Rattle.load_process.proofs.Validity.{HasNamesOnce, named_number, number_named}
use Rattle.load_removal.specs.Going.{ModuleSet, MayGo, process_without}
use Rattle.load_removal.specs.parts.Laws.{OthersAreValid}
use Rattle.load_removal.proofs.PlacesLeft.{length-places_left}
use Rattle.load_removal.proofs.StayingModules.{live_stays, live_before, is_live_stays, group_stays, group_before, scope_stays}

module _ (p : SymbolicProcess) (gone : ModuleSet) (valid : IsValid p) (may : MayGo p gone) where
  abbrev q : SymbolicProcess
  q = process_without gone p

  names_once : HasNamesOnce q
  names_once m n a b x y same = valid.names m n a b (live_before gone p q refl m a x).1 (live_before gone p q refl n b y).1 same

  -- what a module that stays needs stays
  needed : (m : ℕ) (live : Live) (name : List ℕ) → gone m ≡ false → live_at p m ≡ Some live → Contains live.object.needed name
      → IsSomeAnd (number_of q name) (λ n. Contains (group_scope q m) n)
  needed m live name stays was there =
      let here : is_live p m ≡ true = ap is_some was in
      let met = All-contains (λ name. IsSomeAnd (number_of p name) (λ n. Contains (group_scope p m) n)) live.object.needed name
      (valid.members m live was).needs there in
      let had = of_some_and (λ n. Contains (group_scope p m) n) (number_of p name) met in
      let n = had.0 in
      let other : gone n ≡ false = may.alone m n here stays had.2 in
      let is = number_named p name n had.1 in
      let number : number_of q name ≡ Some n = named_number q name n is.0 names_once (live_stays gone p q refl n other ∙ is.1) is.2 in
      some_and (λ n. Contains (group_scope q m) n) (number_of q name) n number
      (subst (λ (scope : List ℕ). Contains scope n) (sym (scope_stays gone p q refl m may stays here)) had.2)

  member : (m : ℕ) (live : Live) → live_at q m ≡ Some live → IsMember q m live
  member m live is =
      let before = live_before gone p q refl m live is in
      let had = valid.members m live before.1 in
      let whole : gone live.group ≡ false = may.groups' m live before.1 ∙ before.0 in
      record {
        grouped = λ none. had.grouped (sym (group_stays gone p q refl live.group whole) ∙ none);
        needs = all_contained (λ name. IsSomeAnd (number_of q name) (λ n. Contains (group_scope q m) n)) live.object.needed
            (λ name there. needed m live name before.0 before.1 there);
        flags = had.flags;
        calls = had.calls;
      }

  group_after : (g : ℕ) (group : Group) → group_at q g ≡ Some group → IsGroup q g group
  group_after g group is =
      let before = group_before gone p q refl g group is in
      let had = valid.scopes g group before.1 in
      let first = of_some_and (λ (live : Live). live.group ≡ g) (live_at p g) had.founder in
      let scope : group_scope p g ≡ group.scope =
      ap (λ (x : Option Live). option_map_or (λ (g : Group). g.scope) (option_and_then (λ (live : Live). group_at p live.group) x) []) first.1
      ∙ ap (λ (x : Option Group). option_map_or (λ (g : Group). g.scope) x []) (ap (group_at p) first.2 ∙ before.1) in
      record {
        founder = some_and (λ (live : Live). live.group ≡ g) (live_at q g) first.0 (live_stays gone p q refl g before.0 ∙ first.1) first.2;
        scope' = all_contained (λ n. is_live q n ≡ true) group.scope (λ n there.
            let other : gone n ≡ false = may.alone g n (ap is_some first.1) before.0 (subst (λ (ns : List ℕ). Contains ns n) (sym scope) there) in
            is_live_stays gone p q refl n other (All-contains (λ n. is_live p n ≡ true) group.scope n had.scope' there));
      }

  global_after : All (λ n. is_live q n ≡ true) q.global
  global_after = all_contained (λ n. is_live q n ≡ true) q.global (λ n there.
      let kept = in_filter (λ m. not (gone m)) p.global n there in
      is_live_stays gone p q refl n (not-true (gone n) kept.1) (All-contains (λ n. is_live p n ≡ true) p.global n valid.global' kept.0))

  others_valid : IsValid q
  others_valid = record {
    modules' = length-places_left gone p.modules ∙ valid.modules';
    groups' = length-places_left gone p.groups ∙ valid.groups';
    names = names_once;
    members = member;
    scopes = group_after;
    global' = global_after;
    once = AllPairs-filter (λ m n. m ≢ n) (λ m. not (gone m)) p.global valid.once;
  }

pub others_valid_lem : OthersAreValid
others_valid_lem p gone valid may = others_valid p gone valid may
