-- What holds of a consistent loader.
use Rattle.std.specs.Prelude.{◌<◌, ◌^◌}
use Rattle.load_state.specs.Consistent.{IsConsistent}
use Rattle.load_state.specs.Loaded.{Loaded}
use Rattle.placed_code.specs.parts.PlacedModules.{ArePlaced}

abbrev pub ConsistentArePlaced : Type 0
ConsistentArePlaced = (l : Loaded) → IsConsistent l → l.modules.plan.memory < 2 ^ 32 → ArePlaced l.modules.process l.modules.maps
