-- Each part of what holds of a loader holds after a load.
use Rattle.std.proofs.Common.{◌≡◌, ◌≢◌, ℕ, List, Option, sym, ap, subst, ◌∙◌, All}
use Rattle.std.specs.FinMap.{get}
use Rattle.std.specs.Option.{option_or}
use Rattle.fd_base.proofs.Options.{or_stays}
use Rattle.fd_base.specs.Fetched.{Files}
use Rattle.elf_model.specs.Sound.{IsSound}
use Rattle.placement.specs.declared.item.Item.{Item}
use Rattle.placement.specs.Placed.{Placed}
use Rattle.placement.specs.Space.{all_held}
use Rattle.load_model.specs.Joined.{Asked}
use Rattle.load_model.specs.Descriptors.{listed_addr}
use Rattle.load_model.specs.Plan.{Fits, low_of, high_of}
use Rattle.load_process.specs.parts.TakenObjects.{IsTaken}
use Rattle.load_state.specs.declared.plan.GroupPlan.{GroupPlan}
use Rattle.load_state.specs.Accepted.{IsPlan, adopted_by, all_items, maps_after}
use Rattle.load_state.specs.Committed.{IsCommitted}
use Rattle.load_state.specs.Consistent.{IsConsistent, HasModules, HasRanges, HasDescriptors}
use Rattle.load_state.specs.Loaded.{Loaded}
use Rattle.load_map.specs.Maps.{map_at}
use Rattle.load_laws.specs.parts.Grounds.{IsDone, IsGiven}
use Rattle.load_laws.specs.parts.Premises.{HaveOwnNumbers, HasFreeNumber, IsExtended}
use Rattle.load_laws.proofs.MemoryAfter.{images_after}
use Rattle.load_laws.proofs.MapsAfter.{map_stays}
use Rattle.load_laws.proofs.ModulesAfter.{modules_stay_lem}
use Rattle.load_laws.proofs.RangesAfter.{ranges_stay_lem}
use Rattle.load_laws.proofs.TablesAfter.{tables_stay_lem}
use Rattle.load_laws.specs.parts.DescriptorLaws.{AddressesStay, AreAdoptable}
use Rattle.load_laws.proofs.AdoptedDescriptors.{adoptions_free_lem}
use Rattle.load_laws.proofs.DescriptorsAfter.{descriptors_stay_lem}
use Rattle.load_laws.specs.parts.ConsistencyLaws.{LoadsKeepConsistent}
use Rattle.load_laws.proofs.Extension.{extended, stays_valid}
use Rattle.load_laws.proofs.NewNumbers.{own_numbers, unused_numbers, sound_of}
use Rattle.load_laws.proofs.FreeSlots.{given_address, given_slot, given_unused}

-- a plan of a consistent loader
module _ (l : Loaded) (files : Option Files) (root : List ℕ) (asked : Asked) (plan : GroupPlan) (consistent : IsConsistent l)
    (planned : IsPlan l.modules files root asked plan) (taken : All (λ j. IsTaken j.object) plan.joining) where
  abbrev items : List Item
  items = all_items l.modules.plan.places plan.joining

  pub placed_items : Placed (low_of l.modules.plan) (high_of l.modules.plan) l.modules.held items plan.addrs
  placed_items = subst (λ (xs : List Item). Placed (low_of l.modules.plan) (high_of l.modules.plan) l.modules.held xs plan.addrs) planned.items' planned.placed'

  -- no function and no slot has the address of a new module's own descriptor
  pub adoptable : AreAdoptable l.modules plan.adopted
  adoptable =
      adoptions_free_lem l.modules plan.joining plan.scope plan.addrs plan.maps plan.adopted consistent.fits consistent.modules' consistent.ranges consistent.descriptors
      (own_numbers l.modules files root asked plan planned) (unused_numbers l.modules files root asked plan planned) (sound_of plan.joining taken)
      placed_items planned.maps' planned.adopted'

-- the plan is committed
module _ (l new : Loaded) (files : Option Files) (root : List ℕ) (asked : Asked) (plan : GroupPlan) (consistent : IsConsistent l)
    (planned : IsPlan l.modules files root asked plan) (taken : All (λ j. IsTaken j.object) plan.joining) (committed : IsCommitted l plan new) where
  own : HaveOwnNumbers plan.joining
  own = own_numbers l.modules files root asked plan planned

  free : All (HasFreeNumber l.modules.process) plan.joining
  free = unused_numbers l.modules files root asked plan planned

  sound : All (λ j. IsSound j.object) plan.joining
  sound = sound_of plan.joining taken

  placed : Placed (low_of l.modules.plan) (high_of l.modules.plan) l.modules.held (all_items l.modules.plan.places plan.joining) plan.addrs
  placed = placed_items l files root asked plan consistent planned taken

  ext : IsExtended l.modules new.modules plan.joining plan.scope
  ext = extended l.modules new.modules files root asked plan consistent.valid planned committed.process'

  maps' : new.modules.maps ≡ maps_after l.modules.maps plan.joining plan.addrs
  maps' = committed.maps' ∙ planned.maps'

  held' : new.modules.held ≡ all_held (all_items l.modules.plan.places plan.joining) plan.addrs l.modules.held
  held' = committed.held' ∙ ap (λ xs. all_held xs plan.addrs l.modules.held) planned.items'

  adopted' : plan.adopted ≡ adopted_by l.modules plan.joining plan.scope new.modules.maps
  adopted' = planned.adopted' ∙ ap (adopted_by l.modules plan.joining plan.scope) (sym committed.maps')

  mods : HasModules new.modules
  mods =
      modules_stay_lem l.modules new.modules plan.joining plan.scope plan.addrs plan.adopted plan.given consistent.modules' ext own free sound planned.filled
      planned.enough placed committed.plan' maps' adopted' planned.given' committed.addrs'

  ranges : HasRanges new.modules
  ranges = ranges_stay_lem l.modules new.modules plan.joining plan.addrs consistent.modules' consistent.ranges own free placed maps' held'

  descriptors : HasDescriptors new.modules
  descriptors =
      descriptors_stay_lem l.modules new.modules plan.joining plan.scope plan.addrs plan.adopted plan.given consistent.fits consistent.modules' consistent.ranges consistent.descriptors
      ext own free sound placed committed.plan' maps' adopted' planned.given' committed.addrs'

  map_left : (m : ℕ) → All (λ j. j.number ≢ m) plan.joining → map_at new.modules.maps m ≡ map_at l.modules.maps m
  map_left m others = ap (λ maps. map_at maps m) maps' ∙ map_stays plan.joining l.modules.maps plan.addrs m others

  done : IsDone l plan new
  done = record {
    fits = consistent.fits;
    valid = consistent.valid;
    mods = consistent.modules';
    news = mods;
    ranges = ranges;
    ext = ext;
    free = free;
    stays = map_left;
    slots = given_slot l.modules files root asked plan planned;
    committed = committed;
  }

  given : IsGiven l plan new
  given = record {
    held' = λ f a there. committed.addrs' f ∙ given_address l.modules files root asked plan planned f a there;
    unused = given_unused l.modules files root asked plan planned;
    elsewhere = (adoptable l files root asked plan consistent planned taken).no_slot;
  }

  stays_consistent : IsConsistent new
  stays_consistent = record {
    fits = subst Fits (sym committed.plan') consistent.fits;
    valid = stays_valid l.modules new.modules files root asked plan consistent.valid planned committed.process';
    modules' = mods;
    ranges = ranges;
    descriptors = descriptors;
    laid_out = committed.laid_out;
    images = images_after l new plan done consistent.images;
    tables = tables_stay_lem l new plan done given consistent.descriptors consistent.tables;
  }

pub loads_keep_lem : LoadsKeepConsistent
loads_keep_lem l new files root asked plan consistent planned taken committed = stays_consistent l new files root asked plan consistent planned taken committed

pub addresses_stay_lem : AddressesStay
addresses_stay_lem l new files root asked plan consistent planned taken committed = record {
  kept = λ f a had. committed.addrs' f ∙ or_stays (get l.modules.addrs f) (option_or (listed_addr plan.adopted f) (listed_addr plan.given f)) a had;
  distinct = (loads_keep_lem l new files root asked plan consistent planned taken committed).descriptors.distinct;
}
