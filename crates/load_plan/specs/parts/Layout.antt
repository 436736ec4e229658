-- Where new modules and descriptors go, and what a plan is made from.
use Rattle.std.specs.Prelude.{◌≡◌, ◌+◌, ◌*◌, ◌^◌, ◌<◌, ◌≤◌, length, All}
use Rattle.std.specs.List.{zip}
use Rattle.func_desc.specs.Pool.{Pool, free_slots}
use Rattle.elf_model.specs.declared.constants.TheConstants.{MAX_SEGMENTS}
use Rattle.placement.specs.Placed.{FailsAt}
use Rattle.placement.specs.Space.{Space, IsPlaced}
use Rattle.symbol_scope.specs.declared.tables.TheConstants.{MAX_MODULES}
use Rattle.symbol_scope.specs.parts.Slots.{TableSpace}
use Rattle.load_model.specs.declared.error.LoadErr.{LoadErr}
use Rattle.load_model.specs.declared.error.LoadErr.TheVariants.{Refused, Memory as NoMemory}
use Rattle.load_model.specs.declared.error.LoadRefusal.TheVariants.{DescriptorsFull, NoRoom}
use Rattle.load_model.specs.Plan.{Fits, descriptors_at, low_of, high_of}
use Rattle.load_map.specs.parts.IsLoadMap.{EndsBelow}
use Rattle.load_image.specs.Places.{placed_pairs_of}
use Rattle.load_state.specs.Accepted.{all_items, maps_after}
use Rattle.load_state.specs.Loaded.{LoadedModules}
use Rattle.load_plan.specs.parts.Tables.{HasTables}
use Rattle.load_plan.specs.declared.layout.Layout.{Layout}
use Rattle.load_plan.specs.declared.layout.Standing.{Standing}
use Rattle.load_plan.specs.declared.linking.Linked.{Linked}
use Rattle.load_plan.specs.parts.LinkedLoad.{HasFewSymbols}

-- what is loaded, of these parts
abbrev pub loaded_by : Standing → Space → Pool → LoadedModules
loaded_by s space pool = record {
  plan = s.plan.now;
  process = s.process.now;
  maps = s.maps.now;
  held = space.held;
  addrs = pool.addrs;
}

-- the ranges and the slots are those of the memory plan, and what is placed is placed below 2^32
pub record IsRoomy (s : Standing) (space : Space) (pool : Pool) : Type 0 where
  pub fits : Fits s.plan.now
  pub low' : space.low ≡ low_of s.plan.now
  pub high' : space.high ≡ high_of s.plan.now
  pub small : space.high < 2 ^ 32
  pub base' : pool.base ≡ descriptors_at s.plan.now
  pub slots' : pool.slots ≡ s.plan.now.descriptors
  pub modules' : length s.process.now.modules ≡ MAX_MODULES
  pub maps' : length s.maps.now ≡ MAX_MODULES
  pub ends : All (All EndsBelow) s.maps.now
  pub few : length space.held + MAX_SEGMENTS * MAX_MODULES < 2 ^ 32

-- a plan can be made: there is a table for each live module, which has few symbols
pub record IsPlannable (s : Standing) (space : Space) (tables : TableSpace) (pool : Pool) : Type 0 where
  pub roomy : IsRoomy s space pool
  pub tables' : HasTables s.process.now tables.slots
  pub symbols : HasFewSymbols s.process.now

-- where what is linked goes
pub record IsLaid (s : Standing) (space : Space) (pool : Pool) (linked : Linked) (layout : Layout) : Type 0 where
  pub enough : length linked.wanted ≤ length (free_slots pool)
  pub given' : layout.given ≡ zip linked.wanted (free_slots pool)
  pub items' : layout.items ≡ all_items s.plan.now.places linked.joining
  pub placed' : IsPlaced space layout.items layout.addrs
  pub maps' : layout.maps ≡ maps_after s.maps.now linked.joining layout.addrs
  pub adopted' : layout.adopted ≡ placed_pairs_of layout.maps linked.privates

-- why it goes nowhere: slots are tested before segments
abbrev pub IsUnlaid : Standing → Space → Pool → Linked → LoadErr → Type 0
IsUnlaid s space pool linked (Refused (DescriptorsFull n)) = (n ≡ length (free_slots pool)) × (n < length linked.wanted)
IsUnlaid s space pool linked (Refused (NoRoom i)) =
    (length linked.wanted ≤ length (free_slots pool)) × FailsAt space.low space.high space.held (all_items s.plan.now.places linked.joining) i
IsUnlaid s space pool linked NoMemory = Unit {0}
IsUnlaid s space pool linked other = ⊥
