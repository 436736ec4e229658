-- What holds of a loader whose program runs.
use Rattle.guest_mem.specs.parts.Kept.{Keeps}
use Rattle.guest_mem.specs.Memory.{GuestMemory}
use Rattle.load_state.specs.Consistent.{IsConsistent}
use Rattle.load_state.specs.Loaded.{Loaded}

-- a consistent loader stays so where its memory keeps what is watched
abbrev pub StepsKeepConsistent : Type 0
StepsKeepConsistent = (l : Loaded) (memory : GuestMemory) → IsConsistent l → Keeps l.memory memory → IsConsistent (record l { memory = memory })
