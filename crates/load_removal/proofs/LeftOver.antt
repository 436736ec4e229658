-- The load maps and addresses of descriptors of modules that stay.
use Rattle.std.proofs.Common.{◌≡◌, ℕ, Bool, true, false, cond, List, [], Some, None, ap, ◌∙◌}
use Rattle.std.specs.FinMap.{get}
use Rattle.elf_model.specs.declared.func.Func.{Func}
use Rattle.load_map.specs.declared.entry.MapEntry.{MapEntry}
use Rattle.load_map.specs.Maps.{map_at}
use Rattle.load_state.specs.Loaded.{Loaded}
use Rattle.load_removal.specs.Going.{ModuleSet}
use Rattle.load_removal.specs.TakenOut.{IsTakenOut}
use Rattle.load_removal.proofs.PlacesLeft.{map_left}
use Rattle.load_removal.proofs.StayingModules.{left_there}

module _ (l new : Loaded) (gone : ModuleSet) (taken : IsTakenOut l gone new) where
  map_after : (m : ℕ) → map_at new.modules.maps m ≡ cond (gone m) [] (map_at l.modules.maps m)
  map_after m = ap (λ (maps : List (List MapEntry)). map_at maps m) taken.maps' ∙ map_left gone l.modules.maps m

  pub map_stays : (m : ℕ) → gone m ≡ false → map_at new.modules.maps m ≡ map_at l.modules.maps m
  map_stays m stays = map_after m ∙ ap (λ (b : Bool). cond b [] (map_at l.modules.maps m)) stays

  pub map_gone : (m : ℕ) → gone m ≡ true → map_at new.modules.maps m ≡ []
  map_gone m goes = map_after m ∙ ap (λ (b : Bool). cond b [] (map_at l.modules.maps m)) goes

  pub address_stays : (f : Func) → gone f.module ≡ false → get new.modules.addrs f ≡ get l.modules.addrs f
  address_stays f stays = taken.addrs' f ∙ ap (λ (b : Bool). cond b None (get l.modules.addrs f)) stays

  pub address_before : (f : Func) (a : ℕ) → get new.modules.addrs f ≡ Some a → (gone f.module ≡ false) × (get l.modules.addrs f ≡ Some a)
  address_before f a is = left_there (gone f.module) (get l.modules.addrs f) (get new.modules.addrs f) a (taken.addrs' f) is
