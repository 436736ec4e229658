-- The functions of slots after a load: those of live modules stay, and those of new ones are what the plan says.
use Rattle.std.proofs.Common.{◌≡◌, ◌≢◌, ℕ, inl, inr, List, [], get_or, Option, Some, None, refl, sym, ap, ◌∙◌, All}
use Rattle.std.specs.Option.{option_map_or}
use Rattle.std.proofs.lemmas.List.Elements.{All-contains, Contains-get_or}
use Rattle.elf_model.specs.declared.object.Object.{Object}
use Rattle.elf_model.specs.Sound.{IsSound}
use Rattle.load_laws.specs.parts.Premises.{IsExtended}
use Rattle.load_laws.proofs.SlotFunctions.{targets_stay}
use Rattle.load_model.specs.declared.module.Joining.{Joining}
use Rattle.load_model.specs.Definition.{Linkage}
use Rattle.load_model.specs.Linkage.{linkage_of}
use Rattle.load_model.specs.Process.{object_at}
use Rattle.load_state.specs.Accepted.{linkage_for}
use Rattle.load_state.specs.Loaded.{LoadedModules}
use Rattle.load_state.specs.Slots.{targets_of}
use Rattle.mod_load.specs.parts.Targets.{AllTargets, AreKept, HasTargets, targets_in}

module _ (l new : LoadedModules) (joining : List Joining) (scope : List ℕ) (old now : AllTargets) (extension : IsExtended l new joining scope)
    (sound : (m : ℕ) (o : Object) → object_at l.process m ≡ Some o → IsSound o)
    (apart : (m : ℕ) (o : Object) → object_at l.process m ≡ Some o → All (λ j. j.number ≢ m) joining)
    (has : HasTargets l.process old) (kept : AreKept (λ j. targets_of (linkage_for l joining scope) j.number j.object) joining old now) where
  stays : (m : ℕ) → All (λ j. j.number ≢ m) joining → get_or now m [] ≡ targets_in l.process m
  stays m others = kept.others m others ∙ has.each m

  -- where no module is live after the load, none has joined, and none was live
  none_joins : (m : ℕ) → object_at new.process m ≡ None → All (λ j. j.number ≢ m) joining
  none_joins m none k d lt is =
      let j : Joining = get_or joining k d in
      let there : object_at new.process m ≡ Some j.object = ap (object_at new.process) (sym is) ∙ extension.fresh j (Contains-get_or joining k d lt) in
      let never : None ≡ Some j.object = sym none ∙ there in
      absurd cc

  none_before : (m : ℕ) (x : Option Object) → object_at l.process m ≡ x → object_at new.process m ≡ None → targets_in l.process m ≡ []
  none_before m None before none = ap (λ (x : Option Object). option_map_or (targets_of (linkage_of l.process) m) x []) before
  none_before m (Some o) before none =
      let never : None ≡ Some o = sym none ∙ (extension.old m o before).0 in
      absurd cc

  kept_for : (m : ℕ) (x : Option Object) → object_at new.process m ≡ x → get_or now m [] ≡ option_map_or (targets_of (linkage_of new.process) m) x []
  kept_for m None none = stays m (none_joins m none) ∙ none_before m (object_at l.process m) refl none
  kept_for m (Some o) some =
      elim (extension.only m o some) [
        | inl before ↦
            stays m (apart m o before)
            ∙ ap (λ (x : Option Object). option_map_or (targets_of (linkage_of l.process) m) x []) before
            ∙ sym (targets_stay (linkage_of l.process) (linkage_of new.process) m o (sound m o before).slot_kinds (extension.old m o before).1)
        | inr joins ↦
            let k : Linkage = linkage_for l joining scope in
            let j : Joining = joins.0 in
            ap (λ (n : ℕ). get_or now n []) (sym joins.2)
            ∙ All-contains (λ (i : Joining). get_or now i.number [] ≡ targets_of k i.number i.object) joining j kept.each joins.1
            ∙ ap (λ (n : ℕ). targets_of k n j.object) joins.2 ∙ ap (targets_of k m) joins.3
            ∙ ap (λ (linkage : Linkage). targets_of linkage m o) (sym extension.linkage')
      ]

  pub has_later : HasTargets new.process now
  has_later = record { size = kept.size ∙ has.size; each = λ m. kept_for m (object_at new.process m) refl }
