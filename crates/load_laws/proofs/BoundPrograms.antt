-- A program that is loaded has every slot bound.
use Rattle.std.proofs.Common.{◌≡◌, inl, inr, ℕ, Bool, false, List, [], Option, Some, None, refl, ap, subst, ◌∙◌}
use Rattle.std.specs.Prelude.{Contains, option_map}
use Rattle.std.specs.Option.{option_map_or}
use Rattle.fd_base.specs.Fetched.{Files}
use Rattle.load_model.specs.declared.module.Joining.{Joining}
use Rattle.load_model.specs.declared.module.Live.{Live}
use Rattle.load_model.specs.declared.plan.MemPlan.{MemPlan}
use Rattle.load_model.specs.Process.{live_at, object_at}
use Rattle.load_model.specs.Unbound.{is_set, is_unbound, unbound_at_first}
use Rattle.load_model.specs.Validity.{IsValid}
use Rattle.load_model.proofs.FirstFlags.{eager_flags}
use Rattle.load_state.specs.Loaded.{Loaded}
use Rattle.load_state.specs.ProgramLoad.{IsProgramLoaded, eager}
use Rattle.load_laws.specs.parts.ConsistencyLaws.{ProgramsAreBound}
use Rattle.load_laws.proofs.Extension.{extended, first_flags}
use Rattle.load_laws.proofs.NewLoaders.{new_is_consistent_lem, not_live}

module _ (plan : MemPlan) (told : Files) (name : List ℕ) (l : Loaded) (p : IsProgramLoaded plan told name l) where
  abbrev old : Loaded
  old = p.start

  valid : IsValid old.modules.process
  valid = (new_is_consistent_lem plan old p.fresh).valid

  -- a module that joins, with no flag set
  new_bound : (m k : ℕ) (j : Joining) → Contains p.group.joining j → j.number ≡ m → is_unbound l.modules.process m k ≡ false
  new_bound m k j joins number =
      let flags = first_flags old.modules l.modules (Some told) name eager p.group valid p.planned p.committed.process' j joins in
      subst (λ (n : ℕ). is_unbound l.modules.process n k ≡ false) number
      (ap (λ unbound. is_set unbound k) (flags ∙ ap (λ (lazy : Bool). unbound_at_first lazy j.object) p.planned.lazy') ∙ eager_flags j.object k)

  bound : (m k : ℕ) → is_unbound l.modules.process m k ≡ false
  bound m k = by (live_at l.modules.process m) refl
    where
      by : (x : Option Live) → live_at l.modules.process m ≡ x → is_unbound l.modules.process m k ≡ false
      by None none = ap (λ (x : Option Live). is_set (option_map_or (λ live. live.unbound) x []) k) none
      by (Some live) some =
          let there : object_at l.modules.process m ≡ Some live.object = ap (option_map (λ (x : Live). x.object)) some in
          let ext = extended old.modules l.modules (Some told) name eager p.group valid p.planned p.committed.process' in
          elim (ext.only m live.object there) [
            | inl was ↦ absurd (not_live plan old.modules p.fresh.starts m live.object was)
            | inr joined ↦ new_bound m k joined.0 joined.1 joined.2
          ]

pub programs_bound_lem : ProgramsAreBound
programs_bound_lem plan told name l p m k = bound plan told name l p m k
