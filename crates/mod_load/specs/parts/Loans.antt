-- The loan of a loader's memory: what is written there is all that changes.
use Rattle.std.specs.Borrow.{Lends, MutBor, Fml}
use Rattle.guest_mem.specs.contracts.guest.Guest.{the_row as guest_row}
use Rattle.guest_mem.specs.Memory.{GuestMemory}
use Rattle.load_state.specs.Loaded.{LoaderState}
use Rattle.mod_load.specs.contracts.loader.Loader.{the_row}

abbrev pub with_memory : LoaderState → GuestMemory → LoaderState
with_memory l memory = record l { loaded = record l.loaded { memory = memory } }

abbrev pub LendsGuest : MutBor LoaderState → MutBor GuestMemory → Fml
LendsGuest l r = Lends the_row guest_row l r (with_memory l.now)
