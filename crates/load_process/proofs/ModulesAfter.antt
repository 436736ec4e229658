-- Live modules and groups after new modules were put into their places.
use Rattle.std.proofs.Common.{◌≡◌, ◌≢◌, ℕ, suc, ◌<◌, ◌⊎◌, inl, inr, Bool, true, false, cond, Option, Some, None, List, [], ◌∷◌, length, get_or, set, refl, sym, ap, ◌∙◌, subst, arith, All, length-set}
use Rattle.std.specs.Prelude.{◌==◌, option_map, option_and_then, Contains, AllPairs}
use Rattle.std.specs.Option.{option_or, option_map_or}
use Rattle.std.proofs.lemmas.Bool.{false≢true, cases_eq}
use Rattle.std.proofs.lemmas.Bool.Decides.{nat_tests, Decides-eqb}
use Rattle.std.proofs.lemmas.List.Elements.{All-head, All-tail, All-contains}
use Rattle.load_model.specs.declared.module.Group.{Group}
use Rattle.load_model.specs.declared.module.Joining.{Joining}
use Rattle.load_model.specs.declared.module.Live.{Live}
use Rattle.load_model.specs.declared.module.SymbolicProcess.{SymbolicProcess}
use Rattle.load_model.specs.Joined.{live_from, modules_after, group_of, groups_after, process_after}
use Rattle.load_model.specs.Linkage.{joining_at}
use Rattle.load_model.specs.Process.{live_at, group_at, group_scope}
use Rattle.load_model.specs.Validity.{IsValid}
use Rattle.fd_base.proofs.Options.{of_some_and}
use Rattle.fd_base.proofs.Finding.{find_none}
use Rattle.load_process.proofs.NumberedPlaces.{at_place, at_place-set_same, at_place-set_other}
use Rattle.load_process.proofs.WalkFacts.{Facts, at_number}

abbrev new_or : Bool → ℕ → Option Joining → Option Live → Option Live
new_or lazy group new old = option_or (option_map (live_from lazy group) new) old

unequal : (a b : ℕ) → a ≢ b → (a == b) ≡ false
unequal a b apart = grind (arith, nat_tests)

others : (j : Joining) (joining : List Joining) (m : ℕ) → j.number ≡ m → AllPairs (λ j k. j.number ≢ k.number) (j ∷ joining) → joining_at joining m ≡ None
others j joining m is apart =
    find_none (λ k. k.number == m) joining (λ k d lt. unequal (get_or joining k d).number m (λ e. apart 0 (suc k) d (omega arith) (omega arith) (is ∙ sym e)))

-- the new module of a number stands there, or what stood there
pub placed_after : (modules : List (Option Live)) (lazy : Bool) (group : ℕ) (joining : List Joining) (m : ℕ) → AllPairs (λ j k. j.number ≢ k.number) joining → All (λ j. j.number < length modules) joining
    → at_place (modules_after modules lazy group joining) m ≡ new_or lazy group (joining_at joining m) (at_place modules m)
placed_after modules lazy group [] m apart within = refl
placed_after modules lazy group (j ∷ joining) m apart within =
    let new : Option Live = Some (live_from lazy group j) in
    let after : List (Option Live) = set modules j.number new in
    let len : length modules ≡ length after = sym (length-set modules j.number new) in
    let rest : All (λ k. k.number < length after) joining = subst (λ n. All (λ k. k.number < n) joining) len (All-tail (λ k. k.number < length modules) j joining within) in
    let step = placed_after after lazy group joining m (λ a b d lt in'. apart (suc a) (suc b) d (omega arith) (omega arith)) rest in
    step
    ∙ elim (j.number == m) as (λ b. (j.number == m) ≡ b → new_or lazy group (joining_at joining m) (at_place after m) ≡ new_or lazy group (cond b (Some j) (joining_at joining m)) (at_place modules m)) [
      | true ↦ λ e.
          let is : j.number ≡ m = (Decides-eqb j.number m).0 e in
          ap (λ o. new_or lazy group o (at_place after m)) (others j joining m is apart)
          ∙ ap (λ n. at_place after n) (sym is) ∙ at_place-set_same modules j.number new (All-head (λ k. k.number < length modules) j joining within)
      | false ↦ λ e. ap (new_or lazy group (joining_at joining m)) (at_place-set_other modules j.number m new (λ is. false≢true (sym e ∙ (Decides-eqb j.number m).1 (sym is))))
    ] refl

-- where a process has new modules with free numbers, as one group
module _ (p : SymbolicProcess) (joining : List Joining) (names : List (List ℕ)) (facts : Facts p joining names) (valid : IsValid p) (lazy : Bool) (scope global : List ℕ) where
  abbrev q : SymbolicProcess
  q = process_after p lazy joining scope global

  within : All (λ j. j.number < length p.modules) joining
  within = subst (λ n. All (λ j. j.number < n) joining) (sym valid.modules') facts.small

  live_after : (m : ℕ) → live_at q m ≡ new_or lazy (group_of joining) (joining_at joining m) (live_at p m)
  live_after m = placed_after p.modules lazy (group_of joining) joining m facts.apart within

  pub new_after : (m : ℕ) (j : Joining) → joining_at joining m ≡ Some j → live_at q m ≡ Some (live_from lazy (group_of joining) j)
  new_after m j e = live_after m ∙ ap (λ o. new_or lazy (group_of joining) o (live_at p m)) e

  pub old_after : (m : ℕ) → joining_at joining m ≡ None → live_at q m ≡ live_at p m
  old_after m e = live_after m ∙ ap (λ o. new_or lazy (group_of joining) o (live_at p m)) e

  -- no new module has a live one's number
  pub not_new : (m : ℕ) (live : Live) → live_at p m ≡ Some live → joining_at joining m ≡ None
  not_new m live e = elim (joining_at joining m) as (λ o. joining_at joining m ≡ o → o ≡ None) [
    | None ↦ λ f. refl
    | Some j ↦ λ f.
        let at = at_number p joining m j f in
        let free : live_at p m ≡ None = ap (live_at p) (sym at.1) ∙ All-contains (λ j. live_at p j.number ≡ None) joining j facts.free at.0 in
        cc
  ] refl

  pub stays_after : (m : ℕ) (live : Live) → live_at p m ≡ Some live → live_at q m ≡ Some live
  stays_after m live e = old_after m (not_new m live e) ∙ e

  -- what is live was new or live
  pub came_from : (m : ℕ) (live : Live) → live_at q m ≡ Some live → ((j : Joining) × (joining_at joining m ≡ Some j) × (live ≡ live_from lazy (group_of joining) j)) ⊎ (live_at p m ≡ Some live)
  came_from m live e = elim (joining_at joining m) as (λ o. joining_at joining m ≡ o → ((j : Joining) × (joining_at joining m ≡ Some j) × (live ≡ live_from lazy (group_of joining) j)) ⊎ (live_at p m ≡ Some live)) [
    | None ↦ λ f. inr (sym (old_after m f) ∙ e)
    | Some j ↦ λ f. let is = new_after m j f in inl (j, f, cc)
  ] refl

  -- ---- groups

  abbrev new_group : Option Group
  new_group = Some (record { scope = scope })

  group_placed : (js : List Joining) (m : ℕ) (j : Joining) → joining_at js m ≡ Some j → All (λ j. j.number < length p.groups) js → at_place (groups_after p.groups js scope) (group_of js) ≡ new_group
  group_placed [] m j e small = cc
  group_placed (k ∷ js) m j e small = at_place-set_same p.groups k.number new_group (All-head (λ j. j.number < length p.groups) k js small)

  pub group_new : (m : ℕ) (j : Joining) → joining_at joining m ≡ Some j → group_at q (group_of joining) ≡ new_group
  group_new m j e = group_placed joining m j e (subst (λ n. All (λ j. j.number < n) joining) (sym valid.groups') facts.small)

  group_kept : (js : List Joining) (g : ℕ) → All (λ j. j.number ≢ g) js → at_place (groups_after p.groups js scope) g ≡ at_place p.groups g
  group_kept [] g other = refl
  group_kept (k ∷ js) g other = at_place-set_other p.groups k.number g new_group (λ e. All-head (λ j. j.number ≢ g) k js other (sym e))

  pub group_old : (g : ℕ) (live : Live) → live_at p g ≡ Some live → group_at q g ≡ group_at p g
  group_old g live e = group_kept joining g (λ k d lt is. none (facts.free k d lt) is)
    where
      none : {n : ℕ} → live_at p n ≡ None → n ≡ g → ⊥
      none f is = let both : live_at p g ≡ None = ap (live_at p) (sym is) ∙ f in cc

  -- a live group was one before, or is the new one
  group_from : (js : List Joining) (g : ℕ) (group : Group) → at_place (groups_after p.groups js scope) g ≡ Some group → All (λ j. j.number < length p.groups) js
      → ((j : Joining) × (Contains js j) × (group_of js ≡ j.number) × (g ≡ group_of js) × (group ≡ record { scope = scope })) ⊎ (at_place p.groups g ≡ Some group)
  group_from [] g group e small = inr e
  group_from (k ∷ js) g group e small = elim (cases_eq g k.number) [
    | inl same ↦
        let is = at_place-set_same p.groups k.number new_group (All-head (λ j. j.number < length p.groups) k js small) in
        let at : at_place (set p.groups k.number new_group) k.number ≡ Some group = ap (at_place (set p.groups k.number new_group)) (sym same) ∙ e in
        inl (k, (0, omega arith, refl), refl, same, cc)
    | inr apart ↦ inr (sym (at_place-set_other p.groups k.number g new_group apart) ∙ e)
  ]

  pub group_came_from : (g : ℕ) (group : Group) → group_at q g ≡ Some group
      → ((j : Joining) × (Contains joining j) × (group_of joining ≡ j.number) × (g ≡ group_of joining) × (group ≡ record { scope = scope })) ⊎ (group_at p g ≡ Some group)
  group_came_from g group e = group_from joining g group e (subst (λ n. All (λ j. j.number < n) joining) (sym valid.groups') facts.small)

  -- ---- scopes

  pub scope_new : (m : ℕ) (j : Joining) → joining_at joining m ≡ Some j → group_scope q m ≡ scope
  scope_new m j e =
      ap (λ o. option_map_or (λ g. g.scope) (option_and_then (λ live. group_at q live.group) o) []) (new_after m j e)
      ∙ ap (λ o. option_map_or (λ g. g.scope) o []) (group_new m j e)

  -- the group of a live module is that of a live module
  founder : (live : Live) (o : Option Group) → group_at p live.group ≡ o → o ≢ None → (l : Live) × (live_at p live.group ≡ Some l)
  founder live None e some = absurd (some refl)
  founder live (Some group) e some = let f = of_some_and (λ l. l.group ≡ live.group) (live_at p live.group) (valid.scopes live.group group e).founder in (f.0, f.1)

  pub group_left : (m : ℕ) (live : Live) → live_at p m ≡ Some live → group_at q live.group ≡ group_at p live.group
  group_left m live e =
      let f = founder live (group_at p live.group) refl (valid.members m live e).grouped in
      group_old live.group f.0 f.1

  pub scope_old : (m : ℕ) (live : Live) → live_at p m ≡ Some live → group_scope q m ≡ group_scope p m
  scope_old m live e =
      ap (λ o. option_map_or (λ g. g.scope) (option_and_then (λ live. group_at q live.group) o) []) (stays_after m live e)
      ∙ ap (λ o. option_map_or (λ g. g.scope) o []) (group_left m live e)
      ∙ ap (λ o. option_map_or (λ g. g.scope) (option_and_then (λ live. group_at p live.group) o) []) (sym e)

  pub scope_none : (m : ℕ) → joining_at joining m ≡ None → live_at p m ≡ None → group_scope q m ≡ group_scope p m
  scope_none m f e =
      ap (λ o. option_map_or (λ g. g.scope) (option_and_then (λ live. group_at q live.group) o) []) (old_after m f ∙ e)
      ∙ ap (λ o. option_map_or (λ g. g.scope) (option_and_then (λ live. group_at p live.group) o) []) (sym e)
