use Rattle.std.proofs.Common.{ℕ, ◌+◌, ◌-◌, ◌^◌, ◌<◌, ◌≤◌, List, length, refl, sym, ap, subst, ◌∙◌, All}
use Rattle.std.specs.Prelude.{AllPairs}
use Rattle.load_map.specs.declared.entry.MapEntry.{MapEntry}
use Rattle.elf_model.specs.declared.func.Func.{Func}
use Rattle.placement.specs.Space.{all_held}
use Rattle.load_laws.proofs.ConsistentAfter.{loads_keep_lem}
use Rattle.load_laws.proofs.NewNumbers.{free_numbers_of, own_numbers, unused_numbers}
use Rattle.load_places.proofs.CommitSteps.{steps_commit_lem}
use Rattle.load_places.proofs.SegmentEnds.{maps_end_lem}
use Rattle.load_places.proofs.GivenSlots.{given_room}
use Rattle.load_places.proofs.PlansPlaceable.{placeable_lem}
use Rattle.load_places.specs.parts.CommitSteps.{IsEntered}
use Rattle.load_places.specs.parts.Descriptors.{DescriptorsApart, HasDescriptorsPut}
use Rattle.load_places.specs.parts.Modules.{HasModulesPut}
use Rattle.std.proofs.lemmas.List.{length-map}
use Rattle.load_model.specs.declared.module.Joining.{Joining}
use Rattle.load_model.specs.Linkage.{linkage_with}
use Rattle.load_model.specs.Unbound.{unbound_at_first}
use Rattle.load_map.specs.parts.IsLoadMap.{EndsBelow}
use Rattle.load_model.specs.declared.module.SymbolicProcess.{SymbolicProcess}
use Rattle.load_plan.proofs.MadeLists.{small_numbers}
use Rattle.load_plan.specs.parts.Tables.{ArePut}
use Rattle.load_state.specs.Accepted.{linkage_for}
use Rattle.load_state.specs.Committed.{IsCommitted}
use Rattle.load_state.specs.Loaded.{Loaded, LoadedModules, LoaderState}
use Rattle.load_state.specs.Slots.{targets_of}
use Rattle.mod_load.proofs.EnteredAddresses.{after_both}
use Rattle.mod_load.proofs.GivenDescriptors.{can_adopt, next_given}
use Rattle.mod_load.proofs.LoaderParts.{plan_of}
use Rattle.mod_load.proofs.PartCounts.{fit_after, owned}
use Rattle.mod_load.specs.parts.EnteredAddresses.{AreEntered, AreNext, CanBeAdopted}
use Rattle.mod_load.specs.parts.Fit.{IsFit}
use Rattle.mod_load.proofs.loader.Loader.commit.Goals as goal

pub put_modules-requires : goal.put_modules-requires
put_modules-requires c =
    let p = plan_of c.args.plan c.self.view_is c.requires.consistent c.requires.ready in
    rw (c.as_slice.ensures, c.as_slice-2.ensures, c.as_slice-3.ensures) (placeable_lem _ p.files p.root' p.asked c.args.plan p.consistent p.planned p.taken)

pub put_tables-requires-clause-numbers : goal.put_tables-requires-clause-numbers
put_tables-requires-clause-numbers c =
    let ready = c.requires.ready in
    rw c.as_slice-4.ensures (own_numbers c.args.self.now.loaded.modules ready.files ready.root' ready.asked c.args.plan ready.planned)

pub put_tables-requires-clause-places : goal.put_tables-requires-clause-places
put_tables-requires-clause-places c =
    let i = c.self.inside in
    let p = plan_of c.args.plan c.self.view_is c.requires.consistent c.requires.ready in
    rw c.as_slice-4.ensures
    (small_numbers i.process c.args.plan.joining _ c.self.invariant.tabled.size (unused_numbers _ p.files p.root' p.asked c.args.plan p.planned))

pub put_tables-requires-clause-room : goal.put_tables-requires-clause-room
put_tables-requires-clause-room c =
    let room = subst (λ (n : ℕ). All (λ (j : Joining). j.number < n) c.args.plan.joining) (sym (ap (λ (s : LoaderState). s.table_room) c.self.view_is)) c.requires.ready.tables in
    rw c.as_slice-4.ensures room

pub put_tables-requires-clause-made : goal.put_tables-requires-clause-made
put_tables-requires-clause-made c = rw c.as_slice-4.ensures c.requires.ready.planned.tables'

pub put_targets-requires-clause-numbers : goal.put_targets-requires-clause-numbers
put_targets-requires-clause-numbers c =
    let ready = c.requires.ready in
    rw c.as_slice-5.ensures (own_numbers c.args.self.now.loaded.modules ready.files ready.root' ready.asked c.args.plan ready.planned)

pub put_targets-requires-clause-places : goal.put_targets-requires-clause-places
put_targets-requires-clause-places c =
    let i = c.self.inside in
    let p = plan_of c.args.plan c.self.view_is c.requires.consistent c.requires.ready in
    rw c.as_slice-5.ensures
    (small_numbers i.process c.args.plan.joining _ c.self.invariant.targeted.size (unused_numbers _ p.files p.root' p.asked c.args.plan p.planned))

pub put_targets-requires-clause-count : goal.put_targets-requires-clause-count
put_targets-requires-clause-count c =
    let plan = c.args.plan in
    let l = linkage_for c.args.self.now.loaded.modules plan.joining plan.scope in
    rw c.as_slice-5.ensures (ap length c.requires.ready.planned.targets' ∙ length-map plan.joining (λ (j : Joining). targets_of l j.number j.object))

pub join-requires-clause-numbers : goal.join-requires-clause-numbers
join-requires-clause-numbers c =
    let ready = c.requires.ready in
    (free_numbers_of c.args.self.now.loaded.modules ready.files ready.root' ready.asked c.args.plan ready.planned).small

pub join-requires-clause-flags : goal.join-requires-clause-flags
join-requires-clause-flags c =
    let plan = c.args.plan in
    ap length c.requires.ready.planned.unbound' ∙ length-map plan.joining (λ (j : Joining). unbound_at_first plan.lazy j.object)

pub put_descriptors-requires : goal.put_descriptors-requires
put_descriptors-requires c =
    let p = plan_of c.args.plan c.self.view_is c.requires.consistent c.requires.ready in
    let small = subst (λ (n : ℕ). n < 2 ^ 32) p.consistent.laid_out.size c.whole.ensures.whole.size in
    let room = given_room _ p.files p.root' p.asked c.args.plan p.consistent p.planned p.taken in
    record {
      maps = subst (λ (maps : List (List MapEntry)). All (All EndsBelow) maps) (sym c.as_slice-6.ensures)
          (maps_end_lem.new _ p.files p.root' p.asked c.args.plan p.consistent p.planned p.taken small);
      inside = subst (λ (given : List (Func × ℕ)). All (λ e. e.1 + 8 ≤ length c.put_modules.new.guest.bytes) given) (sym c.as_slice-7.ensures)
          (subst (λ (n : ℕ). All (λ e. e.1 + 8 ≤ n) c.args.plan.given) (sym c.put_modules.ensures.size) room.inside);
      apart = subst (λ (given : List (Func × ℕ)). AllPairs DescriptorsApart given) (sym c.as_slice-7.ensures) room.apart;
    }

pub take-requires-clause-owners : goal.take-requires-clause-owners
take-requires-clause-owners c =
    let ready = c.requires.ready in
    owned c.args.self.now.loaded ready.files ready.root' ready.asked c.args.plan c.requires.consistent ready.planned ready.taken

pub adopt_all-requires-clause-free : goal.adopt_all-requires-clause-free
adopt_all-requires-clause-free c =
    let i = c.self.inside in
    let p = plan_of c.args.plan c.self.view_is c.requires.consistent c.requires.ready in
    subst (λ (adopted : List (Func × ℕ)). CanBeAdopted adopted i.pool) (sym c.as_slice-8.ensures)
    (can_adopt _ p.files p.root' p.asked c.args.plan p.consistent p.planned p.taken i.pool c.self.invariant.base' c.self.invariant.slots' refl)

pub give_all-requires : goal.give_all-requires
give_all-requires c =
    let i = c.self.inside in
    let p = plan_of c.args.plan c.self.view_is c.requires.consistent c.requires.ready in
    let first : AreEntered c.args.plan.adopted i.pool c.adopt_all.new.pool = rw c.as_slice-8.ensures at c.adopt_all.ensures.entered in
    subst (λ (given : List (Func × ℕ)). AreNext given c.adopt_all.new.pool) (sym c.as_slice-9.ensures)
    (next_given _ p.files p.root' p.asked c.args.plan p.consistent p.planned p.taken i.pool c.self.invariant.base' c.self.invariant.slots' refl c.adopt_all.new.pool first c.adopt_all.ensures.free)

pub invariant_of-self : goal.invariant_of-self
invariant_of-self c =
    let i = c.self.inside in
    let plan = c.args.plan in
    let p = plan_of plan c.self.view_is c.requires.consistent c.requires.ready in
    let first : AreEntered plan.adopted i.pool c.adopt_all.new.pool = rw c.as_slice-8.ensures at c.adopt_all.ensures.entered in
    let last : AreEntered plan.given c.adopt_all.new.pool c.give_all.new.pool = rw c.as_slice-9.ensures at c.give_all.ensures in
    let put : ArePut plan.joining i.tables.slots c.put_tables.new.tables.slots = rw c.as_slice-4.ensures at c.put_tables.ensures in
    let keep = rw c.as_slice-5.ensures at c.put_targets.ensures in
    let l = linkage_with i.process plan.joining plan.scope in
    let kept = keep (λ (j : Joining). targets_of l j.number j.object) p.planned.targets' in
    subst (λ (q : SymbolicProcess). IsFit i.plan q c.take.new.self c.give_all.new.pool c.put_tables.new.tables c.put_targets.new.targets.items) (sym (c.join.ensures plan.lazy p.planned.unbound'))
    (fit_after _ p.files p.root' p.asked plan p.consistent p.planned p.taken i.ranges c.take.new.self i.pool c.adopt_all.new.pool c.give_all.new.pool i.tables c.put_tables.new.tables
    i.targets.items c.put_targets.new.targets.items (all_held plan.items plan.addrs i.ranges.held) (i.ranges.room - length plan.items) c.self.invariant put kept c.take.ensures.held c.take.ensures.count first last)

pub returns-clause-committed : goal.returns-clause-committed
returns-clause-committed c =
    let i = c.self.inside in
    let plan = c.args.plan in
    let p = plan_of plan c.self.view_is c.requires.consistent c.requires.ready in
    let first : AreEntered plan.adopted i.pool c.adopt_all.new.pool = rw c.as_slice-8.ensures at c.adopt_all.ensures.entered in
    let last : AreEntered plan.given c.adopt_all.new.pool c.give_all.new.pool = rw c.as_slice-9.ensures at c.give_all.ensures in
    let old : LoadedModules = record { plan = i.plan; process = i.process; maps = i.maps; held = i.ranges.held; addrs = i.pool.addrs } in
    let later : LoadedModules = record {
      plan = i.plan;
      process = c.join.new.process;
      maps = plan.maps;
      held = c.take.new.self.held;
      addrs = c.give_all.new.pool.addrs;
    } in
    let l : Loaded = record { modules = old; memory = i.guest } in
    let new : Loaded = record { modules = later; memory = c.put_descriptors.new.guest } in
    let entered : IsEntered old plan later = record {
      plan' = refl;
      process' = c.join.ensures plan.lazy p.planned.unbound';
      maps' = refl;
      held' = ap (λ s. s.held) c.take.ensures.held;
      addrs' = after_both plan.adopted plan.given i.pool c.adopt_all.new.pool c.give_all.new.pool first last;
    } in
    let put : HasModulesPut plan.joining plan.maps plan.parts i.guest c.put_modules.new.guest = rw (c.as_slice.ensures, c.as_slice-2.ensures, c.as_slice-3.ensures) at c.put_modules.ensures.put in
    let slots : HasDescriptorsPut later.process plan.maps plan.given c.put_modules.new.guest new.memory = rw (c.as_slice-6.ensures, c.as_slice-7.ensures) at c.put_descriptors.ensures in
    subst (λ (s : LoaderState). IsCommitted s.loaded plan new) c.self.view_is (steps_commit_lem l p.files p.root' p.asked plan p.consistent p.planned p.taken new c.put_modules.new.guest entered put slots)

pub returns-clause-consistent : goal.returns-clause-consistent
returns-clause-consistent c =
    let ready = c.requires.ready in
    loads_keep_lem c.args.self.now.loaded _ ready.files ready.root' ready.asked c.args.plan c.requires.consistent ready.planned ready.taken (returns-clause-committed c)
