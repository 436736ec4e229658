-- What a load adds, and what it leaves as it was.
use Rattle.std.proofs.Common.{◌≡◌, ℕ, Bool, true, Option, Some, None, List, [], get_or, refl, sym, ap, ◌∙◌, subst, arith, All}
use Rattle.std.specs.Prelude.{is_some, option_map, option_and_then, if◌then◌else◌}
use Rattle.std.specs.Option.{option_or, option_map_or}
use Rattle.std.proofs.Math.Path.{fun_ext}
use Rattle.fd_base.proofs.Options.{none_of, some_of}
use Rattle.elf_model.specs.declared.object.Object.{Object}
use Rattle.load_model.specs.declared.module.Joining.{Joining}
use Rattle.load_model.specs.declared.module.Live.{Live}
use Rattle.load_model.specs.declared.module.SymbolicProcess.{SymbolicProcess}
use Rattle.load_model.specs.Definition.{Linkage}
use Rattle.load_model.specs.Joined.{process_after}
use Rattle.load_model.specs.Linkage.{linkage_of, linkage_with, joining_at}
use Rattle.load_model.specs.Process.{live_at, is_live, group_at, group_scope, object_at}
use Rattle.load_model.specs.Validity.{IsValid}
use Rattle.load_process.specs.parts.JoinLaws.{IsJoined, IsLeft}
use Rattle.load_process.proofs.WalkFacts.{Facts}
use Rattle.load_process.proofs.ModulesAfter.{new_after, old_after, stays_after, scope_new, scope_old, scope_none}

module _ (p : SymbolicProcess) (joining : List Joining) (names : List (List ℕ)) (facts : Facts p joining names) (valid : IsValid p) (lazy : Bool) (scope global : List ℕ) where
  abbrev q : SymbolicProcess
  q = process_after p lazy joining scope global

  abbrev with_scope : Linkage
  with_scope = linkage_with p joining scope

  objects_same : (m : ℕ) → object_at q m ≡ with_scope.objects m
  objects_same m = elim (joining_at joining m) as (λ o. joining_at joining m ≡ o → object_at q m ≡ option_or (option_map (λ j. j.object) o) (object_at p m)) [
    | None ↦ λ e. ap (option_map (λ live. live.object)) (old_after p joining names facts valid lazy scope global m e)
    | Some j ↦ λ e. ap (option_map (λ live. live.object)) (new_after p joining names facts valid lazy scope global m j e)
  ] refl

  scopes_same : (m : ℕ) → group_scope q m ≡ with_scope.scopes m
  scopes_same m = elim (joining_at joining m) as (λ o. joining_at joining m ≡ o → group_scope q m ≡ (if is_some o then scope else group_scope p m)) [
    | None ↦ λ e. elim (live_at p m) as (λ o. live_at p m ≡ o → group_scope q m ≡ group_scope p m) [
      | None ↦ λ f. scope_none p joining names facts valid lazy scope global m e f
      | Some live ↦ λ f. scope_old p joining names facts valid lazy scope global m live f
    ] refl
    | Some j ↦ λ e. scope_new p joining names facts valid lazy scope global m j e
  ] refl

  linkage_made : (k l : Linkage) → k.objects ≡ l.objects → k.scopes ≡ l.scopes → k ≡ l
  linkage_made k l objects scopes =
      let made : (ℕ → Option Object) → (ℕ → List ℕ) → Linkage = λ o s. record { objects = o; scopes = s } in
      ap (λ o. made o k.scopes) objects ∙ ap (made l.objects) scopes

  pub joined : IsJoined p q lazy joining scope
  joined = record {
    linkage = linkage_made (linkage_of q) with_scope (fun_ext objects_same) (fun_ext scopes_same);
    new = new_after p joining names facts valid lazy scope global;
    old = λ m e. old_after p joining names facts valid lazy scope global m (none_of (joining_at joining m) e);
  }

  object_left : (m : ℕ) → is_live p m ≡ true → object_at q m ≡ object_at p m
  object_left m e =
      let live = some_of (live_at p m) e in
      ap (option_map (λ live. live.object)) (stays_after p joining names facts valid lazy scope global m live.0 live.1 ∙ sym live.1)

  scope_live : (m : ℕ) (live : Live) → live_at p m ≡ Some live → All (λ n. is_live p n ≡ true) (group_scope p m)
  scope_live m live e =
      subst (All (λ n. is_live p n ≡ true)) (sym (ap (λ o. option_map_or (λ g. g.scope) (option_and_then (λ l. group_at p l.group) o) []) e))
      (elim (group_at p live.group) as (λ o. group_at p live.group ≡ o → All (λ n. is_live p n ≡ true) (option_map_or (λ g. g.scope) o [])) [
        | None ↦ λ f k d lt. absurd (omega arith)
        | Some group ↦ λ f. (valid.scopes live.group group f).scope'
      ] refl)

  pub left : (m : ℕ) → is_live p m ≡ true → IsLeft p (linkage_of p) (linkage_of q) m
  left m e =
      let live = some_of (live_at p m) e in
      let members = scope_live m live.0 live.1 in
      record {
        scope = scope_old p joining names facts valid lazy scope global m live.0 live.1;
        own = object_left m e;
        members = members;
        objects = λ k d lt. object_left (get_or (group_scope p m) k d) (members k d lt);
      }
