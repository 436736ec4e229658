-- The modules that stay stand as they did.
use Rattle.std.proofs.Common.{◌≡◌, ℕ, inl, inr, true, false, List, length, Some, Ok, sym, ap, subst, ◌∙◌, AllPairs}
use Rattle.std.specs.List.{AllZip}
use Rattle.elf_model.specs.declared.object.Object.{Object}
use Rattle.load_map.specs.declared.entry.MapEntry.{MapEntry}
use Rattle.load_map.specs.Maps.{map_at}
use Rattle.load_map.specs.Whole.{PlacedApart}
use Rattle.load_model.specs.declared.meaning.SiteValue.TheVariants.{Descriptor}
use Rattle.load_model.specs.declared.module.SymbolicProcess.{SymbolicProcess}
use Rattle.load_model.specs.declared.plan.MemPlan.{MemPlan}
use Rattle.load_model.specs.Linkage.{linkage_of}
use Rattle.load_model.specs.Process.{is_live, object_at}
use Rattle.load_model.specs.Sites.{site_value}
use Rattle.load_state.specs.Consistent.{HasModules, IsEntryOf, IsStanding}
use Rattle.load_state.specs.Loaded.{Loaded}
use Rattle.load_removal.specs.Going.{ModuleSet, MayGo}
use Rattle.load_removal.specs.TakenOut.{IsTakenOut}
use Rattle.load_removal.proofs.LeftOver.{address_stays, map_gone, map_stays}
use Rattle.load_removal.proofs.PlacesLeft.{length-maps_left}
use Rattle.load_removal.proofs.StayingModules.{is_live_with, object_before, object_none}
use Rattle.load_removal.proofs.StayingSites.{function_stays, means}

module _ (l new : Loaded) (gone : ModuleSet) (may : MayGo l.modules.process gone) (taken : IsTakenOut l gone new) (had : HasModules l.modules) where
  abbrev p : SymbolicProcess
  p = l.modules.process

  abbrev q : SymbolicProcess
  q = new.modules.process

  stands : (m : ℕ) (o : Object) → gone m ≡ false → object_at p m ≡ Some o → IsStanding new.modules m o
  stands m o stays was =
      let stood = had.standing m o was in
      let here : is_live p m ≡ true = is_live_with p m o was in
      let map' : map_at new.modules.maps m ≡ map_at l.modules.maps m = map_stays l new gone taken m stays in
      let same = means gone p q taken.process' may m o stays here in
      record {
        sound = stood.sound;
        mapped = subst (λ (plan : MemPlan). AllZip (IsEntryOf plan) o.segments (map_at new.modules.maps m)) (sym taken.plan')
            (subst (λ (es : List MapEntry). AllZip (IsEntryOf l.modules.plan) o.segments es) (sym map') stood.mapped);
        apart = subst (AllPairs PlacedApart) (sym map') stood.apart;
        filled = same.refusals ∙ stood.filled;
        described = λ r f there asks none.
            let asked : site_value (linkage_of p) m o r ≡ Ok (Descriptor (Some f)) = sym (same.values r) ∙ asks in
            let other = function_stays gone p q taken.process' may m o r f stays here asked in
            stood.described r f there asked (sym (address_stays l new gone taken f other) ∙ none);
      }

  pub modules_left : HasModules new.modules
  modules_left = record {
    count = ap (λ (maps : List (List MapEntry)). length maps) taken.maps' ∙ length-maps_left gone l.modules.maps ∙ had.count;
    standing = λ m o here.
        let before = object_before gone p q taken.process' m o here in
        stands m o before.0 before.1;
    others = λ m none. elim (object_none gone p q taken.process' m none) [
      | inl goes ↦ map_gone l new gone taken m goes
      | inr stays ↦ map_stays l new gone taken m stays.0 ∙ had.others m stays.1
    ];
  }
