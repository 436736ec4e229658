-- A loader that has loaded nothing is consistent.
use Rattle.std.proofs.Common.{◌≡◌, ◌≢◌, ℕ, zero, suc, ◌+◌, ◌-◌, ◌*◌, ◌≤◌, inr, List, [], length, replicate, Some, None, refl, sym, ap, subst, ◌∙◌, arith}
use Rattle.std.specs.Prelude.{Contains, option_and_then, option_map}
use Rattle.std.specs.FinMap.{get, get-empty}
use Rattle.std.proofs.lemmas.List.{length-replicate}
use Rattle.load_map.specs.declared.entry.MapEntry.{MapEntry}
use Rattle.elf_model.specs.declared.func.Func.{Func}
use Rattle.elf_model.specs.declared.object.Object.{Object}
use Rattle.func_desc.specs.Functions.{func_cmp}
use Rattle.func_desc.proofs.Contained.{free_slots_free}
use Rattle.guest_mem.specs.Memory.{GuestMemory, byte_at}
use Rattle.placement.specs.declared.item.Held.{Held}
use Rattle.placement.specs.Space.{AreApart}
use Rattle.symbol_scope.specs.declared.tables.TheConstants.{MAX_MODULES}
use Rattle.fd_base.proofs.Ranges.{is_outside}
use Rattle.fd_base.proofs.Members.{nothing_in}
use Rattle.load_memory.proofs.KeptLayout.{layouts_agree}
use Rattle.load_memory.specs.parts.Modules.{nothing}
use Rattle.load_model.specs.declared.layout.TheConstants.{RESOLVER, STUBS_END}
use Rattle.load_model.specs.declared.module.Live.{Live}
use Rattle.load_model.specs.declared.plan.MemPlan.{MemPlan}
use Rattle.load_model.specs.Descriptors.{listed_addr, privates_of}
use Rattle.load_model.specs.Image.{load_map_at}
use Rattle.load_model.specs.Layout.{IsLaidOut}
use Rattle.load_model.specs.Linkage.{linkage_of}
use Rattle.load_model.specs.Plan.{Fits, descriptors_at}
use Rattle.load_model.specs.Process.{object_at}
use Rattle.load_map.specs.Maps.{map_at}
use Rattle.load_process.proofs.EmptyProcess.{empty_valid}
use Rattle.load_process.proofs.NumberedPlaces.{at_place-none}
use Rattle.load_state.specs.Consistent.{IsConsistent, IsPlacedRange, HasDescriptors, HasModules, HasRanges, HoldsTables, own_site}
use Rattle.load_state.specs.Loaded.{Loaded, LoadedModules, in_memory, pool_of}
use Rattle.load_state.specs.ProgramLoad.{IsNew, start_of}
use Rattle.load_laws.specs.parts.ConsistencyLaws.{NewIsConsistent}

none_there : (n m : ℕ) → map_at (replicate n []) m ≡ []
none_there zero m = refl
none_there (suc n) zero = refl
none_there (suc n) (suc m) = none_there n m

-- ---- nothing is loaded

module _ (plan : MemPlan) (l : LoadedModules) (starts : l ≡ start_of plan) where
  no_object : (m : ℕ) → object_at l.process m ≡ None
  no_object m = ap (λ (k : LoadedModules). object_at k.process m) starts ∙ ap (option_map (λ (live : Live). live.object)) (at_place-none MAX_MODULES m)

  pub not_live : (m : ℕ) (o : Object) → object_at l.process m ≢ Some o
  not_live m o is = let none = no_object m in cc

  no_map : (m : ℕ) → map_at l.maps m ≡ []
  no_map m = ap (λ (k : LoadedModules). map_at k.maps m) starts ∙ none_there MAX_MODULES m

  no_address : (f : Func) (a : ℕ) → get l.addrs f ≢ Some a
  no_address f a is = let none : get l.addrs f ≡ None = ap (λ (k : LoadedModules). get k.addrs f) starts ∙ get-empty func_cmp f in cc

  no_site : (f : Func) (site : ℕ) → own_site (linkage_of l.process) f ≢ Some site
  no_site f site is =
      let none : own_site (linkage_of l.process) f ≡ None =
      ap (option_and_then (λ (o : Object). listed_addr (privates_of (linkage_of l.process) (f.module, o)) f)) (no_object f.module) in
      cc

  no_range : (r : Held) → IsPlacedRange l r → ⊥
  no_range r is = nothing_in is.entry (subst (λ (es : List MapEntry). Contains es is.entry) (no_map r.owner) is.listed)

  pub start_laid_out : (memory : GuestMemory) → IsLaidOut plan nothing memory → IsLaidOut plan (in_memory l.process l.maps) memory
  start_laid_out memory laid_out = layouts_agree plan nothing (in_memory l.process l.maps) memory no_object no_map laid_out

  -- ---- the parts that don't name the memory

  no_modules : HasModules l
  no_modules = record {
    count = ap (λ (k : LoadedModules). length k.maps) starts ∙ length-replicate {A = List MapEntry} MAX_MODULES [];
    standing = λ m o is. absurd (not_live m o is);
    others = λ m none. no_map m;
  }

  no_ranges : HasRanges l
  no_ranges = record {
    held' = λ r. (
      λ there. absurd (nothing_in r (subst (λ (k : LoadedModules). Contains k.held r) starts there)),
      λ is. absurd (no_range r is),
    );
    apart = subst (λ (k : LoadedModules). AreApart k.held) (sym starts) tt;
  }

  no_descriptors : HasDescriptors l
  no_descriptors = record {
    live = λ f a is. absurd (no_address f a is);
    own = λ f site is. absurd (no_site f site is);
    places = λ f a none is. absurd (no_address f a is);
    distinct = λ f g a is also. absurd (no_address f a is);
  }

-- ---- what holds of a new loader

module _ (plan : MemPlan) (l : Loaded) (new : IsNew plan l) where
  abbrev mods : LoadedModules
  mods = l.modules

  same_plan : mods.plan ≡ plan
  same_plan = ap (λ (k : LoadedModules). k.plan) new.starts

  above_stubs : (a : ℕ) → STUBS_END ≤ a → byte_at l.memory a ≡ 0
  above_stubs a above = new.clear a (is_outside RESOLVER (STUBS_END - RESOLVER) a (inr (omega arith)))

  only_stubs : HoldsTables l
  only_stubs = record {
    resolver = new.resolver;
    ends = new.ends;
    load_maps = λ m o is. absurd (not_live plan mods new.starts m o is);
    other_maps = λ m small none i lt. above_stubs (load_map_at m + i) (omega arith);
    slots = λ f a is. absurd (no_address plan mods new.starts f a is);
    free = λ a there i lt.
        let slot = free_slots_free.slots (pool_of mods.plan mods.addrs) a there in
        let at : a ≡ descriptors_at mods.plan + 8 * slot.0 = slot.2 in
        above_stubs (a + i) (omega arith);
  }

  pub new_consistent : IsConsistent l
  new_consistent = record {
    fits = subst Fits (sym same_plan) new.fits;
    valid =
        empty_valid mods.process (ap (λ (k : LoadedModules). k.process.modules) new.starts) (ap (λ (k : LoadedModules). k.process.groups) new.starts)
        (ap (λ (k : LoadedModules). k.process.global) new.starts);
    modules' = no_modules plan mods new.starts;
    ranges = no_ranges plan mods new.starts;
    descriptors = no_descriptors plan mods new.starts;
    laid_out = subst (λ (p : MemPlan). IsLaidOut p (in_memory mods.process mods.maps) l.memory) (sym same_plan) new.laid_out;
    images = record { bytes = λ m o is. absurd (not_live plan mods new.starts m o is) };
    tables = only_stubs;
  }

pub new_is_consistent_lem : NewIsConsistent
new_is_consistent_lem plan l new = new_consistent plan l new
