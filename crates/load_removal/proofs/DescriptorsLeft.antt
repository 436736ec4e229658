-- The functions of modules that stay have the descriptors that they had.
use Rattle.std.proofs.Common.{◌≡◌, ℕ, false, List, Some, None, sym, ap, subst, ◌∙◌}
use Rattle.std.specs.FinMap.{get}
use Rattle.fd_base.proofs.Options.{map_some}
use Rattle.elf_model.specs.declared.func.Func.{Func}
use Rattle.elf_model.specs.declared.object.Object.{Object}
use Rattle.func_desc.specs.Pool.{IsSlot}
use Rattle.load_map.specs.declared.entry.MapEntry.{MapEntry}
use Rattle.load_map.specs.Maps.{map_at}
use Rattle.load_map.specs.Translation.{placed}
use Rattle.load_model.specs.declared.module.Live.{Live}
use Rattle.load_model.specs.declared.module.SymbolicProcess.{SymbolicProcess}
use Rattle.load_model.specs.declared.plan.MemPlan.{MemPlan}
use Rattle.load_model.specs.Linkage.{linkage_of}
use Rattle.load_model.specs.Process.{live_at, object_at}
use Rattle.load_state.specs.Consistent.{HasDescriptors, own_site}
use Rattle.load_state.specs.Loaded.{Loaded, pool_of}
use Rattle.load_laws.proofs.OwnSites.{own_means, same_own}
use Rattle.load_removal.specs.Going.{ModuleSet, MayGo}
use Rattle.load_removal.specs.TakenOut.{IsTakenOut}
use Rattle.load_removal.proofs.LeftOver.{address_before, address_stays, map_stays}
use Rattle.load_removal.proofs.StayingModules.{is_live_stays, is_live_with, object_before, object_stays}
use Rattle.load_removal.proofs.StayingSites.{means}

module _ (l new : Loaded) (gone : ModuleSet) (may : MayGo l.modules.process gone) (taken : IsTakenOut l gone new) (had : HasDescriptors l.modules) where
  abbrev p : SymbolicProcess
  p = l.modules.process

  abbrev q : SymbolicProcess
  q = new.modules.process

  -- a function's own descriptor is the same one
  own_left : (f : Func) (o : Object) → gone f.module ≡ false → object_at p f.module ≡ Some o → own_site (linkage_of q) f ≡ own_site (linkage_of p) f
  own_left f o stays was =
      same_own (linkage_of q) (linkage_of p) f o (object_stays gone p q taken.process' f.module stays ∙ was) was
      (means gone p q taken.process' may f.module o stays (is_live_with p f.module o was)).values

  own_address : (f : Func) (site : ℕ) → own_site (linkage_of q) f ≡ Some site → get new.modules.addrs f ≡ Some (placed (map_at new.modules.maps f.module) site)
  own_address f site is =
      let own = own_means (linkage_of q) f site is in
      let before = object_before gone p q taken.process' f.module own.object own.there in
      address_stays l new gone taken f before.0 ∙ had.own f site (sym (own_left f own.object before.0 before.1) ∙ is)
      ∙ ap (λ (es : List MapEntry). Some (placed es site)) (sym (map_stays l new gone taken f.module before.0))

  place : (f : Func) (a : ℕ) → own_site (linkage_of q) f ≡ None → get new.modules.addrs f ≡ Some a → IsSlot (pool_of new.modules.plan new.modules.addrs) a
  place f a none is =
      let before = address_before l new gone taken f a is in
      let some = map_some (λ (live : Live). live.object) (live_at p f.module) (had.live f a before.1) in
      let slot : IsSlot (pool_of l.modules.plan l.modules.addrs) a = had.places f a (sym (own_left f some.0 before.0 some.1) ∙ none) before.1 in
      subst (λ (plan : MemPlan). IsSlot (pool_of plan new.modules.addrs) a) (sym taken.plan') slot

  pub descriptors_left : HasDescriptors new.modules
  descriptors_left = record {
    live = λ f a is.
        let before = address_before l new gone taken f a is in
        is_live_stays gone p q taken.process' f.module before.0 (had.live f a before.1);
    own = own_address;
    places = place;
    distinct = λ f g a x y. had.distinct f g a (address_before l new gone taken f a x).1 (address_before l new gone taken g a y).1;
  }
