-- Two loads of one program come to the same.
use Rattle.std.proofs.Common.{◌≡◌, ◌≢◌, ℕ, ◌-◌, ◌<◌, Bool, true, List, Some, ap, sym, subst, ◌∙◌, arith}
use Rattle.std.specs.FinMap.{get, same_map}
use Rattle.std.specs.Prelude.{Contains, slice_get}
use Rattle.load_map.specs.declared.entry.MapEntry.{MapEntry}
use Rattle.fd_base.specs.Fetched.{Files}
use Rattle.elf_model.specs.declared.func.Func.{Func}
use Rattle.func_desc.proofs.Values.{func_total, one_func}
use Rattle.guest_mem.specs.Memory.{GuestMemory, byte_at}
use Rattle.placement.specs.Space.{all_held}
use Rattle.placement.specs.declared.item.Item.{Item}
use Rattle.load_laws.proofs.PlansDetermined.{plans_determined}
use Rattle.fd_base.proofs.Ranges.{inside}
use Rattle.load_model.specs.declared.layout.TheConstants.{LOAD_MAP_SIZE}
use Rattle.load_model.specs.declared.module.Joining.{Joining}
use Rattle.load_model.specs.declared.module.SymbolicProcess.{SymbolicProcess}
use Rattle.load_model.specs.declared.plan.MemPlan.{MemPlan}
use Rattle.load_model.specs.declared.plan.TheConstants.{DESCRIPTOR_SIZE}
use Rattle.load_model.specs.Descriptors.{descriptors_after}
use Rattle.load_model.specs.Image.{got_of, load_map_at, place_of}
use Rattle.load_map.specs.Maps.{map_at}
use Rattle.load_model.specs.Joined.{process_after}
use Rattle.fd_base.specs.Ranges.{is_in}
use Rattle.load_state.specs.declared.plan.GroupPlan.{GroupPlan}
use Rattle.load_state.specs.Accepted.{IsPlan, all_items}
use Rattle.load_state.specs.Committed.{IsCommitted, IsElsewhere}
use Rattle.load_state.specs.parts.Determined.{SamePlan, LoadsAreDetermined}
use Rattle.load_state.specs.Loaded.{Loaded, LoadedModules, in_memory, placing_of}
use Rattle.load_state.specs.ProgramLoad.{IsProgramLoaded, eager, start_of}
use Rattle.load_laws.proofs.SameCertain.{never_passes, one_number}
use Rattle.load_laws.proofs.SameMemories.{one_memory}
use Rattle.load_laws.proofs.SameModules.{same_modules}
use Rattle.load_laws.proofs.SameBytes.{at_place, load_map_same, pair_same, start_same}

-- ---- one plan is committed to two memories

module _ (base : Loaded) (m n : GuestMemory) (s t : Loaded) (g h : GroupPlan) (c : IsCommitted s g (record base { memory = m })) (d : IsCommitted t h (record base { memory = n }))
    (same : SamePlan g h) (begins : (a : ℕ) → byte_at s.memory a ≡ byte_at t.memory a) where
  joins_too : (j : Joining) → Contains g.joining j → Contains h.joining j
  joins_too j = subst (λ (js : List Joining). Contains js j) same.joining'

  segment_same : (a : ℕ) (j : Joining) (k : ℕ) (e : MapEntry) → Contains g.joining j → slice_get (map_at g.maps j.number) k ≡ Some e → is_in e.addr e.memsz a ≡ true
      → byte_at m a ≡ byte_at n a
  segment_same a j k e listed at there =
      let range = inside e.addr e.memsz a there in
      let within : a - e.addr < e.memsz = omega (arith, range.0, range.1) in
      let entry : slice_get (map_at base.modules.maps j.number) k ≡ Some e = ap (λ (maps : List (List MapEntry)). slice_get (map_at maps j.number) k) c.maps' ∙ at in
      at_place m n e.addr a range.0 (c.images j k e listed entry (a - e.addr) within ∙ sym (d.images j k e (joins_too j listed) entry (a - e.addr) within))

  map_same : (a : ℕ) (j : Joining) → Contains g.joining j → is_in (load_map_at j.number) LOAD_MAP_SIZE a ≡ true → byte_at m a ≡ byte_at n a
  map_same a j listed there = load_map_same m n j.number (map_at base.modules.maps j.number) a (c.load_maps j listed) (d.load_maps j (joins_too j listed)) there

  slot_same : (a : ℕ) (f : Func) (at : ℕ) → Contains g.given (f, at) → is_in at DESCRIPTOR_SIZE a ≡ true → byte_at m a ≡ byte_at n a
  slot_same a f at listed there =
      let placing = placing_of base.modules.process base.modules.maps base.modules.addrs in
      pair_same m n at (place_of placing f) (got_of placing f.module) a (c.slots f at listed)
      (d.slots f at (subst (λ (given : List (Func × ℕ)). Contains given (f, at)) same.given' listed)) there

  -- bytes that differ lie where nothing is written
  elsewhere : (a : ℕ) → byte_at m a ≢ byte_at n a → IsElsewhere g a
  elsewhere a differ = record {
    segments = λ j k e listed at. never_passes (is_in e.addr e.memsz a) (λ there. differ (segment_same a j k e listed at there));
    load_maps = λ j listed. never_passes (is_in (load_map_at j.number) LOAD_MAP_SIZE a) (λ there. differ (map_same a j listed there));
    slots = λ f at listed. never_passes (is_in at DESCRIPTOR_SIZE a) (λ there. differ (slot_same a f at listed there));
  }

  elsewhere_too : (a : ℕ) → IsElsewhere g a → IsElsewhere h a
  elsewhere_too a w = record {
    segments = λ j k e listed at.
        w.segments j k e (subst (λ (js : List Joining). Contains js j) (sym same.joining') listed)
        (ap (λ (maps : List (List MapEntry)). slice_get (map_at maps j.number) k) same.maps' ∙ at);
    load_maps = λ j listed. w.load_maps j (subst (λ (js : List Joining). Contains js j) (sym same.joining') listed);
    slots = λ f at listed. w.slots f at (subst (λ (given : List (Func × ℕ)). Contains given (f, at)) (sym same.given') listed);
  }

  byte_same : (a : ℕ) → byte_at m a ≡ byte_at n a
  byte_same a =
      one_number (byte_at m a) (byte_at n a)
      (λ differ.
      let w = elsewhere a differ in
      differ ((c.stays a w).byte ∙ begins a ∙ sym (d.stays a (elsewhere_too a w)).byte))

-- ---- what is loaded

-- a program is planned where nothing is loaded
plan_at_start : (plan : MemPlan) (told : Files) (name : List ℕ) (l : Loaded) (p : IsProgramLoaded plan told name l) → IsPlan (start_of plan) (Some told) name eager p.group
plan_at_start plan told name l p = subst (λ (k : LoadedModules). IsPlan k (Some told) name eager p.group) p.fresh.starts p.planned

module _ (plan : MemPlan) (told : Files) (name : List ℕ) (l k : Loaded) (p : IsProgramLoaded plan told name l) (q : IsProgramLoaded plan told name k) where
  same : SamePlan p.group q.group
  same =
      plans_determined.same_plan (start_of plan) told name eager p.group q.group
      (plan_at_start plan told name l p) (plan_at_start plan told name k q)

  -- nothing is loaded before either
  starts_is : p.start.modules ≡ q.start.modules
  starts_is = p.fresh.starts ∙ sym q.fresh.starts

  plan_is : l.modules.plan ≡ k.modules.plan
  plan_is = p.committed.plan' ∙ ap (λ (m : LoadedModules). m.plan) starts_is ∙ sym q.committed.plan'

  process_is : l.modules.process ≡ k.modules.process
  process_is =
      p.committed.process'
      ∙ ap (λ (x : SymbolicProcess). process_after x p.group.lazy p.group.joining p.group.scope p.group.global) (ap (λ (m : LoadedModules). m.process) starts_is)
      ∙ ap (λ (x : Bool). process_after q.start.modules.process x p.group.joining p.group.scope p.group.global) same.lazy'
      ∙ ap (λ (x : List Joining). process_after q.start.modules.process q.group.lazy x p.group.scope p.group.global) same.joining'
      ∙ ap (λ (x : List ℕ). process_after q.start.modules.process q.group.lazy q.group.joining x p.group.global) same.scope'
      ∙ ap (process_after q.start.modules.process q.group.lazy q.group.joining q.group.scope) same.global'
      ∙ sym q.committed.process'

  maps_is : l.modules.maps ≡ k.modules.maps
  maps_is = p.committed.maps' ∙ same.maps' ∙ sym q.committed.maps'

  items_is : p.group.items ≡ q.group.items
  items_is =
      p.planned.items'
      ∙ ap (λ (x : MemPlan). all_items x.places p.group.joining) (ap (λ (m : LoadedModules). m.plan) starts_is)
      ∙ ap (all_items q.start.modules.plan.places) same.joining'
      ∙ sym q.planned.items'

  held_is : l.modules.held ≡ k.modules.held
  held_is =
      p.committed.held'
      ∙ ap (λ (xs : List Item). all_held xs p.group.addrs p.start.modules.held) items_is
      ∙ ap (λ (xs : List ℕ). all_held q.group.items xs p.start.modules.held) same.addrs'
      ∙ ap (all_held q.group.items q.group.addrs) (ap (λ (m : LoadedModules). m.held) starts_is)
      ∙ sym q.committed.held'

  addr_is : (f : Func) → get l.modules.addrs f ≡ get k.modules.addrs f
  addr_is f =
      p.committed.addrs' f
      ∙ ap (λ addrs. descriptors_after (get addrs) p.group.adopted p.group.given f) (ap (λ (m : LoadedModules). m.addrs) starts_is)
      ∙ ap (λ adopted. descriptors_after (get q.start.modules.addrs) adopted p.group.given f) same.adopted'
      ∙ ap (λ given. descriptors_after (get q.start.modules.addrs) q.group.adopted given f) same.given'
      ∙ sym (q.committed.addrs' f)

  modules_is : l.modules ≡ k.modules
  modules_is = same_modules l.modules k.modules plan_is process_is maps_is held_is (same_map func_total one_func l.modules.addrs k.modules.addrs addr_is)

  all_but_memory : l ≡ record k { memory = l.memory }
  all_but_memory = ap (λ (m : LoadedModules). record l { modules = m }) modules_is

  committed : IsCommitted p.start p.group (record k { memory = l.memory })
  committed = subst (IsCommitted p.start p.group) all_but_memory p.committed

  memory_is : l.memory ≡ k.memory
  memory_is =
      one_memory k.modules.plan (in_memory k.modules.process k.modules.maps) l.memory k.memory committed.laid_out q.committed.laid_out
      (byte_same k l.memory k.memory p.start q.start p.group q.group committed q.committed same (start_same plan p.start q.start p.fresh q.fresh))

  pub one_loaded : l ≡ k
  one_loaded = all_but_memory ∙ ap (λ (m : GuestMemory). record k { memory = m }) memory_is

pub loads_determined : LoadsAreDetermined
loads_determined = record {
  same = one_loaded;
  exclusive = λ plan told name l r p h.
      plans_determined.exclusive (start_of plan) told name eager p.group r
      (plan_at_start plan told name l p) h;
  same_refusal = λ plan told name r s h k. plans_determined.same_refusal (start_of plan) told name r s h k;
}
