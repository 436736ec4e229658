-- A guest's memory as contracts see it. Each address below its size has a byte, what the byte is mapped as, and a mark
-- for those that are watched.
use Rattle.std.specs.Prelude.{◌≡◌, ◌<◌, ◌≤◌, ◌+◌, ◌^◌, ℕ, Bool, true, false, List, Option, Some, None, get_or, length, replicate}
use Rattle.guest_mem.specs.declared.kind.MemKind.{MemKind}
use Rattle.guest_mem.specs.declared.kind.MemKind.TheVariants.{Code, Data, Fixed}

pub record GuestMemory : Type 0 where
  pub bytes : List ℕ
  pub kinds : List (Option MemKind)
  pub marks : List Bool

-- each byte has a kind and a mark
pub record IsMemory (m : GuestMemory) : Type 0 where
  pub kinds : length m.kinds ≡ length m.bytes
  pub marks : length m.marks ≡ length m.bytes
  pub size : length m.bytes < 2 ^ 32

-- a memory of zeros where nothing is mapped and nothing is watched
abbrev pub blank : ℕ → GuestMemory
blank size = record { bytes = replicate size 0; kinds = replicate size None; marks = replicate size false }

-- a number below 256 at each place
abbrev pub IsBytes : GuestMemory → Type 0
IsBytes m = (a : ℕ) → get_or m.bytes a 0 < 256

-- the byte at an address, and 0 past the end
abbrev pub byte_at : GuestMemory → ℕ → ℕ
byte_at m a = get_or m.bytes a 0

-- what the byte at an address is mapped as; past the end nothing is mapped
abbrev pub kind_at : GuestMemory → ℕ → Option MemKind
kind_at m a = get_or m.kinds a None

abbrev pub is_marked : GuestMemory → ℕ → Bool
is_marked m a = get_or m.marks a false

abbrev pub is_mapped_as : Option MemKind → Bool
is_mapped_as None = false
is_mapped_as (Some kind) = true

abbrev pub is_mapped : GuestMemory → ℕ → Bool
is_mapped m a = is_mapped_as (kind_at m a)

abbrev pub is_code_as : Option MemKind → Bool
is_code_as None = false
is_code_as (Some Code) = true
is_code_as (Some Data) = false
is_code_as (Some Fixed) = false

-- Code and Fixed are always watched, and Data where it is marked. What isn't mapped isn't watched.
abbrev pub is_watched_as : Option MemKind → Bool → Bool
is_watched_as None mark = false
is_watched_as (Some Code) mark = true
is_watched_as (Some Data) mark = mark
is_watched_as (Some Fixed) mark = true

abbrev pub is_watched : GuestMemory → ℕ → Bool
is_watched m a = is_watched_as (kind_at m a) (is_marked m a)

-- each byte of a range is mapped as this
abbrev pub HaveKind : GuestMemory → ℕ → ℕ → Option MemKind → Type 0
HaveKind m start len kind = (a : ℕ) → start ≤ a → a < start + len → kind_at m a ≡ kind

-- each byte of a range is mapped
abbrev pub AreMapped : GuestMemory → ℕ → ℕ → Type 0
AreMapped m start len = (a : ℕ) → start ≤ a → a < start + len → is_mapped m a ≡ true
