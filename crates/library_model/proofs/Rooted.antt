-- The first module that a load adds is the one that was asked for; and where that is live already, none is added.
use Rattle.std.proofs.Common.{◌≡◌, ℕ, zero, suc, true, cond, Option, Some, None, List, [], ◌∷◌, length, map, refl, sym, ap, ◌∙◌, subst, arith, All}
use Rattle.std.specs.Prelude.{slice_get, filter, is_none, option_map, option_and_then, Contains, IsSomeAnd}
use Rattle.std.specs.Option.{option_map_or, option_or}
use Rattle.std.specs.Str.{bytes_eq}
use Rattle.std.proofs.lemmas.List.{take_all}
use Rattle.std.proofs.lemmas.List.Elements.{All-contains, All-cons, All-nil, All-weaker}
use Rattle.fd_base.specs.Fetched.{Files}
use Rattle.fd_base.proofs.Members.{contains_at, contains_first}
use Rattle.fd_base.proofs.Options.{of_some_and}
use Rattle.symbol_scope.proofs.Growing.{All-with_new}
use Rattle.load_model.specs.declared.module.Joining.{Joining}
use Rattle.load_model.specs.declared.module.SymbolicProcess.{SymbolicProcess}
use Rattle.load_model.specs.Joined.{group_of}
use Rattle.load_model.specs.Linkage.{joining_at}
use Rattle.load_model.specs.Process.{object_at, number_of, group_scope}
use Rattle.load_model.specs.Validity.{IsValid}
use Rattle.load_model.specs.Walk.{joining_named, number_among, needed_by, found_after, IsWalk}
use Rattle.load_process.proofs.BreadthFirst.{stays}
use Rattle.load_process.proofs.Validity.{number_named}
use Rattle.load_process.proofs.WalkFacts.{Facts, facts_of, number_found, name_found}

abbrev IsKnown : SymbolicProcess → List ℕ → Type 0
IsKnown p name = (n : ℕ) × (number_of p name ≡ Some n)

-- ---- from a live module on

module _ (p : SymbolicProcess) (joining : List Joining) (valid : IsValid p) where
  -- what a live module needs is live
  needed_known : (name : List ℕ) → IsKnown p name → All (IsKnown p) (needed_by p joining name)
  needed_known name known =
      let is = number_named p name known.0 known.1 in
      let needs = All-weaker (λ name. IsSomeAnd (number_of p name) (λ o. Contains (group_scope p known.0) o)) (IsKnown p)
      (λ name there. let has = of_some_and (λ o. Contains (group_scope p known.0) o) (number_of p name) there in (has.0, has.1))
      is.0.object.needed (valid.members known.0 is.0 is.1).needs in
      let others : Option Joining = joining_named joining name in
      let same : needed_by p joining name ≡ is.0.object.needed =
      ap (λ o. option_map_or (λ x. x.needed) (option_or (option_and_then (object_at p) o) (option_map (λ j. j.object) others)) []) known.1
      ∙ ap (λ o. option_map_or (λ x. x.needed) (option_or (option_map (λ live. live.object) o) (option_map (λ j. j.object) others)) []) is.1 in
      subst (All (IsKnown p)) (sym same) needs

  next_known : (names : List (List ℕ)) (n : ℕ) → All (IsKnown p) names → All (IsKnown p) (option_map_or (needed_by p joining) (slice_get names n) [])
  next_known names n all = elim (slice_get names n) as (λ o. slice_get names n ≡ o → All (IsKnown p) (option_map_or (needed_by p joining) o [])) [
    | None ↦ λ e. All-nil (IsKnown p)
    | Some name ↦ λ e. needed_known name (All-contains (IsKnown p) names name all (contains_at names n name e))
  ] refl

  found_known : (root : List ℕ) (n : ℕ) → IsKnown p root → All (IsKnown p) (found_after (needed_by p joining) root n)
  found_known root zero known = All-cons (IsKnown p) root [] known (All-nil (IsKnown p))
  found_known root (suc n) known =
      let before = found_after (needed_by p joining) root n in
      let all = found_known root n known in
      All-with_new bytes_eq (IsKnown p) before (option_map_or (needed_by p joining) (slice_get before n) []) all (next_known before n all)

no_new : (p : SymbolicProcess) (names : List (List ℕ)) (joining : List Joining) → Facts p joining names → All (IsKnown p) names → joining ≡ []
no_new p names [] facts known = refl
no_new p names (j ∷ joining) facts known =
    let here = contains_first j j joining refl in
    let named = All-contains (λ (j : Joining). Contains names j.name) (j ∷ joining) j facts.named here in
    let some = All-contains (IsKnown p) names j.name known named in
    let none = All-contains (λ (j : Joining). number_of p j.name ≡ None) (j ∷ joining) j facts.new here in
    let never : None ≡ Some some.0 = sym none ∙ some.1 in
    cc

-- ---- from a new module on

record IsFirst (joining : List Joining) (name : List ℕ) : Type 0 where
  j : Joining
  rest : List Joining
  all : joining ≡ j ∷ rest
  named : j.name ≡ name

first_new : (p : SymbolicProcess) (root : List ℕ) (names : List (List ℕ)) (joining : List Joining) → number_of p root ≡ None
    → slice_get names 0 ≡ Some root
    → map (λ (j : Joining). j.name) joining ≡ filter (λ name. is_none (number_of p name)) names → IsFirst joining root
first_new p root [] joining new at fresh = absurd cc
first_new p root (x ∷ names) joining new at fresh = by_list joining (fresh ∙ ap (λ b. cond b (x ∷ more) more) test)
  where
    more : List (List ℕ)
    more = filter (λ name. is_none (number_of p name)) names

    is : x ≡ root
    is = cc

    test : is_none (number_of p x) ≡ true
    test = ap (λ name. is_none (number_of p name)) is ∙ ap is_none new

    by_list : (js : List Joining) → map (λ (j : Joining). j.name) js ≡ x ∷ more → IsFirst js root
    by_list [] e = absurd cc
    by_list (j ∷ js) e = let head : j.name ≡ x = cc in record { j = j; rest = js; all = refl; named = head ∙ is }

-- ---- both

-- what is known of the module that was asked for
pub data Rooted (joining : List Joining) (handle : ℕ) : Type 0 where
  live : joining ≡ [] → Rooted joining handle
  new : (j : Joining) → joining_at joining handle ≡ Some j → group_of joining ≡ handle → Rooted joining handle

pub rooted : (p : SymbolicProcess) (files : Option Files) (root : List ℕ) (joining : List Joining) (names : List (List ℕ)) (handle : ℕ)
    → IsValid p → IsWalk p files root joining names → number_among p joining root ≡ Some handle → Rooted joining handle
rooted p files root joining names handle valid walk e = by_number (number_of p root) refl
  where
    facts : Facts p joining names
    facts = facts_of p files root joining names walk

    by_first : number_of p root ≡ None → IsFirst joining root → Rooted joining handle
    by_first none f =
        let here : Contains joining f.j = subst (λ l. Contains l f.j) (sym f.all) (contains_first f.j f.j f.rest refl) in
        let found : joining_named joining root ≡ Some f.j = ap (joining_named joining) (sym f.named) ∙ name_found joining f.j facts.distinct here in
        let among : number_among p joining root ≡ Some f.j.number =
        ap (λ o. option_or o (option_map (λ (j : Joining). j.number) (joining_named joining root))) none ∙ ap (option_map (λ (j : Joining). j.number)) found in
        let same : f.j.number ≡ handle = one (sym among ∙ e) in
        new f.j (ap (joining_at joining) (sym same) ∙ number_found joining f.j facts.apart here) (ap group_of f.all ∙ same)
      where
        one : {a b : ℕ} → Some a ≡ Some b → a ≡ b
        one e = cc

    by_number : (o : Option ℕ) → number_of p root ≡ o → Rooted joining handle
    by_number None none =
        let w = walk.walked in
        let at : slice_get names 0 ≡ Some root =
        ap (λ l. slice_get l 0) w.names' ∙ stays (needed_by p joining) root 0 (length names) 0 root (omega arith) refl in
        let fresh = w.fresh ∙ ap (filter (λ name. is_none (number_of p name))) (take_all (length names) names (omega arith)) in
        by_first none (first_new p root names joining none at fresh)
    by_number (Some n) some =
        live (no_new p names joining facts (subst (All (IsKnown p)) (sym walk.walked.names') (found_known p joining valid root (length names) (n, some))))
