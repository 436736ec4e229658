-- The watched bytes of the modules that stay are those of their images.
use Rattle.std.proofs.Common.{◌≡◌, ℕ, ◌+◌, true, false, List, slice_get, Some, subst}
use Rattle.load_map.specs.declared.entry.MapEntry.{MapEntry}
use Rattle.load_map.specs.Maps.{map_at}
use Rattle.elf_model.specs.declared.object.Object.{Object}
use Rattle.load_model.specs.declared.module.SymbolicProcess.{SymbolicProcess}
use Rattle.load_model.specs.Process.{is_live, object_at}
use Rattle.load_state.specs.Consistent.{HoldsImages, IsConsistent}
use Rattle.load_state.specs.Loaded.{Loaded}
use Rattle.load_laws.specs.parts.ImageFrame.{IsFramed}
use Rattle.load_laws.proofs.ImageFrame.{images_stand_lem}
use Rattle.load_removal.specs.Going.{ModuleSet, MayGo}
use Rattle.load_removal.specs.TakenOut.{IsTakenOut}
use Rattle.load_removal.proofs.LeftOver.{address_stays, map_stays}
use Rattle.load_removal.proofs.OthersAddresses.{in_segment}
use Rattle.load_removal.proofs.StayingModules.{flags_stay, is_live_with, object_before}
use Rattle.load_removal.proofs.StayingSites.{agree, function_stays, near_stays}

module _ (l new : Loaded) (gone : ModuleSet) (c : IsConsistent l) (may : MayGo l.modules.process gone) (taken : IsTakenOut l gone new) where
  abbrev p : SymbolicProcess
  p = l.modules.process

  abbrev q : SymbolicProcess
  q = new.modules.process

  -- what the image of a module that stays stands on is as before
  framed : (m : ℕ) (o : Object) → gone m ≡ false → object_at p m ≡ Some o → IsFramed l new m o
  framed m o stays was =
      let here : is_live p m ≡ true = is_live_with p m o was in
      record {
        live = was;
        agree = agree gone p q taken.process' may m stays here;
        places = λ n near. map_stays l new gone taken n (near_stays gone p q taken.process' may m n stays here near);
        descriptors = λ r f there asks. address_stays l new gone taken f (function_stays gone p q taken.process' may m o r f stays here asks);
        flags = flags_stay gone p q taken.process' m stays;
        bytes = λ k e at i lt watched.
            let at' : slice_get (map_at l.modules.maps m) k ≡ Some e =
            subst (λ (es : List MapEntry). slice_get es k ≡ Some e) (map_stays l new gone taken m stays) at in
            taken.stays (e.addr + i) (in_segment l gone c may m k i o e stays was at' lt);
      }

  pub images_left : HoldsImages new
  images_left = record {
    bytes = λ m o here.
        let before = object_before gone p q taken.process' m o here in
        images_stand_lem l new m o (framed m o before.0 before.1) (c.images.bytes m o before.1);
  }
