-- A load adds modules to a process, which stays valid, and leaves the others as they were.
use Rattle.std.proofs.Common.{◌≡◌, ℕ, Bool, true, false, ◌⊎◌, inl, inr, List, [], Option, Some, None, refl, sym, ap, subst, ◌∙◌}
use Rattle.std.specs.Prelude.{Contains, is_some, option_map}
use Rattle.std.specs.Option.{option_map_or}
use Rattle.std.proofs.lemmas.Bool.{false≢true}
use Rattle.std.proofs.lemmas.List.Elements.{All-contains}
use Rattle.fd_base.specs.Fetched.{Files}
use Rattle.elf_model.specs.declared.object.Object.{Object}
use Rattle.load_model.specs.declared.module.Joining.{Joining}
use Rattle.load_model.specs.declared.module.Live.{Live}
use Rattle.load_model.specs.declared.module.SymbolicProcess.{SymbolicProcess}
use Rattle.load_model.specs.Joined.{Asked, global_after, process_after}
use Rattle.load_model.specs.Linkage.{joining_at, joins, linkage_of}
use Rattle.load_model.specs.Process.{is_live, live_at, object_at}
use Rattle.load_model.specs.Unbound.{unbound_at_first, unbound_of}
use Rattle.load_model.specs.Validity.{IsValid}
use Rattle.load_process.specs.parts.JoinLaws.{HasFreeNumbers, IsJoined, IsLeft}
use Rattle.load_process.specs.parts.LoadedProcess.{loaded}
use Rattle.load_process.proofs.WalkFacts.{Facts, at_number, facts_of}
use Rattle.load_process.proofs.JoinKeeps.{joined, left}
use Rattle.load_process.proofs.Validity.{valid_after}
use Rattle.load_sites.specs.parts.Laws.{AgreeFor}
use Rattle.load_sites.proofs.LookUpsAgree.{mean_the_same}
use Rattle.load_state.specs.declared.plan.GroupPlan.{GroupPlan}
use Rattle.load_state.specs.Accepted.{IsPlan}
use Rattle.load_state.specs.Loaded.{LoadedModules}
use Rattle.load_laws.specs.parts.Premises.{IsExtended}
use Rattle.load_laws.proofs.AddressesApart.{unwrapped}
use Rattle.fd_base.proofs.Options.{none_or}
use Rattle.load_laws.proofs.NewNumbers.{free_numbers_of}

live_with : (x : Option Live) (o : Object) → option_map (λ live. live.object) x ≡ Some o → is_some x ≡ true
live_with None o is = absurd cc
live_with (Some live) o is = refl

abbrev object_in : Option Live → Option Object
object_in x = option_map (λ live. live.object) x

-- what joins a process, and what it leaves
extends : (l new : LoadedModules) (lazy : Bool) (joining : List Joining) (scope : List ℕ) → HasFreeNumbers l.process joining
    → IsJoined l.process new.process lazy joining scope → ((m : ℕ) → is_live l.process m ≡ true → IsLeft l.process (linkage_of l.process) (linkage_of new.process) m)
    → IsExtended l new joining scope
extends l new lazy joining scope numbers join leave = record {
  linkage' = join.linkage;
  old = λ m o is. (
    (leave m (live_with (live_at l.process m) o is)).own ∙ is,
    (mean_the_same (linkage_of l.process) (linkage_of new.process) m o (agree m o is)).values,
  );
  left = leave;
  flags = λ m here. ap (λ (x : Option Live). option_map_or (λ live. live.unbound) x []) (join.old m (not_joining m here));
  fresh = λ j there. ap object_in (join.new j.number j (All-contains (λ i. joining_at joining i.number ≡ Some i) joining j numbers.found there));
  only = λ m o is. from m o is;
}
  where
    -- no new module has a live one's number
    not_joining : (m : ℕ) → is_live l.process m ≡ true → joins joining m ≡ false
    not_joining m here = by (joining_at joining m) refl
      where
        by : (x : Option Joining) → joining_at joining m ≡ x → is_some (joining_at joining m) ≡ false
        by None none = ap is_some none
        by (Some j) some =
            let at = at_number l.process joining m j some in
            let free : live_at l.process m ≡ None =
            ap (live_at l.process) (sym at.1) ∙ All-contains (λ i. live_at l.process i.number ≡ None) joining j numbers.free at.0 in
            let never : false ≡ true = ap is_some (sym free) ∙ here in
            absurd (false≢true never)

    agree : (m : ℕ) (o : Object) → object_at l.process m ≡ Some o → AgreeFor (linkage_of l.process) (linkage_of new.process) m
    agree m o is =
        let same = leave m (live_with (live_at l.process m) o is) in
        record { scopes = same.scope; own = same.own; members = same.objects }

    from : (m : ℕ) (o : Object) → object_at new.process m ≡ Some o
        → (object_at l.process m ≡ Some o) ⊎ ((j : Joining) × Contains joining j × (j.number ≡ m) × (j.object ≡ o))
    from m o is =
        elim (none_or (joining_at joining m)) [
          | inl none ↦ inl (sym (ap object_in (join.old m (ap is_some none))) ∙ is)
          | inr some ↦
              let j = some.0 in
              let at = at_number l.process joining m j some.1 in
              let same : Some j.object ≡ Some o = sym (ap object_in (join.new m j some.1)) ∙ is in
              inr (j, at.0, at.1, ap (unwrapped j.object) same)
        ]

module _ (l new : LoadedModules) (files : Option Files) (root : List ℕ) (asked : Asked) (plan : GroupPlan)
    (valid : IsValid l.process) (planned : IsPlan l files root asked plan)
    (process' : new.process ≡ process_after l.process plan.lazy plan.joining plan.scope plan.global) where
  abbrev names : List (List ℕ)
  names = planned.scoped.names

  facts : Facts l.process plan.joining names
  facts = facts_of l.process files root plan.joining names planned.scoped.walk

  joins_now : IsJoined l.process new.process plan.lazy plan.joining plan.scope
  joins_now =
      subst (λ (q : SymbolicProcess). IsJoined l.process q plan.lazy plan.joining plan.scope) (sym process')
      (joined l.process plan.joining names facts valid plan.lazy plan.scope plan.global)

  -- a new module has the flags of its object
  pub first_flags : (j : Joining) → Contains plan.joining j → unbound_of new.process j.number ≡ unbound_at_first plan.lazy j.object
  first_flags j there =
      ap (λ (x : Option Live). option_map_or (λ live. live.unbound) x [])
      (joins_now.new j.number j (All-contains (λ i. joining_at plan.joining i.number ≡ Some i) plan.joining j (free_numbers_of l files root asked plan planned).found there))

  pub extended : IsExtended l new plan.joining plan.scope
  extended =
      extends l new plan.lazy plan.joining plan.scope (free_numbers_of l files root asked plan planned) joins_now
      (subst (λ (q : SymbolicProcess). (m : ℕ) → is_live l.process m ≡ true → IsLeft l.process (linkage_of l.process) (linkage_of q) m) (sym process')
      (left l.process plan.joining names facts valid plan.lazy plan.scope plan.global))

  pub is_loaded : new.process ≡ loaded l.process plan.joining names asked
  is_loaded =
      process' ∙ ap (process_after l.process plan.lazy plan.joining plan.scope) planned.global'
      ∙ ap (λ lazy. process_after l.process lazy plan.joining plan.scope (global_after l.process asked.global plan.scope)) planned.lazy'
      ∙ ap (λ scope. process_after l.process asked.lazy plan.joining scope (global_after l.process asked.global scope)) planned.scoped.scope'

  pub stays_valid : IsValid new.process
  stays_valid = subst IsValid (sym is_loaded) (valid_after l.process plan.joining names facts valid asked)
