-- How the memory of a guest is seen.
use Rattle.std.specs.Prelude.{◌≡◌, ◌<◌, ◌^◌, ◌+◌, ◌/◌, length}
use Rattle.guest_mem.specs.Memory.{GuestMemory}
use Rattle.guest_mem.specs.declared.guest.Guest.TheInside.{Inside}
use Rattle.guest_mem.specs.parts.Tags.{AreTagged}

abbrev pub memory_of : Inside → GuestMemory
memory_of g = record { bytes = g.bytes.items; kinds = g.kinds.items; marks = g.marks.items }

-- each byte has a kind and a mark, and each word a tag that is true of its bytes
pub record IsGuest (g : Inside) : Type 0 where
  pub kinds : length g.kinds.items ≡ length g.bytes.items
  pub marks : length g.marks.items ≡ length g.bytes.items
  pub size : length g.bytes.items < 2 ^ 32
  pub words : length g.tags.items ≡ (length g.bytes.items + 3) / 4
  pub tags : AreTagged g.tags.items g.kinds.items g.marks.items
