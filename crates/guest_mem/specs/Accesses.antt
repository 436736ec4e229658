-- What is read, fetched and written, and when an access is refused. Numbers are little-endian (Arm ARM, DDI 0406C,
-- A3.3), and an access has to be aligned to its width (A3.2.1, with strict alignment).
use Rattle.std.specs.Prelude.{ℕ, zero, suc, ◌+◌, ◌*◌, ◌%◌, Bool, cond, not, ◌==◌, List, [], ◌∷◌, Option, Some, None, Result, Ok, Err, length, drop}
use Rattle.std.specs.List.{flat_map}
use Rattle.byteorder.specs.Endian.{little_number, little_bytes}
use Rattle.guest_mem.specs.declared.kind.MemKind.{MemKind}
use Rattle.guest_mem.specs.declared.kind.Access.{Access}
use Rattle.guest_mem.specs.declared.kind.Access.TheVariants.{Unaligned, Fault, Stray}
use Rattle.guest_mem.specs.Ranges.{pasted}
use Rattle.guest_mem.specs.Memory.{GuestMemory, kind_at, is_mapped_as, is_code_as, is_watched}

-- the lowest of `count` addresses from one on that passes a test
abbrev pub first_from : (ℕ → Bool) → ℕ → ℕ → Option ℕ
first_from test a zero = None
first_from test a (suc count) = cond (test a) (Some a) (first_from test (a + 1) count)

-- the lowest of them whose byte is of no kind that is allowed
abbrev pub first_outside : (Option MemKind → Bool) → GuestMemory → ℕ → ℕ → Option ℕ
first_outside allowed m = first_from (λ a. not (allowed (kind_at m a)))

abbrev pub first_watched : GuestMemory → ℕ → ℕ → Option ℕ
first_watched m = first_from (is_watched m)

-- ---- refusals

-- of two refusals the earlier one, where there is one
abbrev pub or_then : Option Access → Option Access → Option Access
or_then None later = later
or_then (Some e) later = Some e

-- the address isn't a multiple of the width
abbrev pub unaligned : ℕ → ℕ → Option Access
unaligned width a = cond (a % width == 0) None (Some (Unaligned a))

abbrev pub fault_at : Option ℕ → Option Access
fault_at None = None
fault_at (Some a) = Some (Fault a)

abbrev pub stray_at : Option ℕ → Option Access
stray_at None = None
stray_at (Some a) = Some (Stray a)

-- Why `count` bytes, which are numbers of one width, can't be read: their address, or the lowest byte of a kind that
-- isn't allowed. Addresses are whole numbers, and nothing is mapped from 2^32 on.
unfoldable pub read_refusal : (Option MemKind → Bool) → ℕ → ℕ → GuestMemory → ℕ → Option Access
read_refusal allowed width count m a = or_then (unaligned width a) (fault_at (first_outside allowed m a count))

-- Why they can't be written. Each byte is tested for being mapped, and then each for being watched.
unfoldable pub write_refusal : ℕ → ℕ → GuestMemory → ℕ → Option Access
write_refusal width count m a = or_then (read_refusal is_mapped_as width count m a) (stray_at (first_watched m a count))

-- an answer, unless it is refused
abbrev pub unless : {X : Type 0} → Option Access → X → Result X Access
unless None answer = Ok answer
unless (Some e) answer = Err e

-- ---- reads

-- the number in the `width` bytes from an address on
abbrev pub number_at : ℕ → GuestMemory → ℕ → ℕ
number_at width m a = little_number width (drop a m.bytes)

-- the words in bytes from a place on
abbrev pub words_in : List ℕ → ℕ → ℕ → List ℕ
words_in bytes a zero = []
words_in bytes a (suc count) = little_number 4 (drop a bytes) ∷ words_in bytes (a + 4) count

unfoldable pub read_of : ℕ → GuestMemory → ℕ → Result ℕ Access
read_of width m a = unless (read_refusal is_mapped_as width width m a) (number_at width m a)

abbrev pub read8_of : GuestMemory → ℕ → Result ℕ Access
read8_of = read_of 1

abbrev pub read16_of : GuestMemory → ℕ → Result ℕ Access
read16_of = read_of 2

abbrev pub read32_of : GuestMemory → ℕ → Result ℕ Access
read32_of = read_of 4

-- words at rising addresses
unfoldable pub read_words_of : GuestMemory → ℕ → ℕ → Result (List ℕ) Access
read_words_of m a count = unless (read_refusal is_mapped_as 4 (4 * count) m a) (words_in m.bytes a count)

-- an instruction's word, of Code alone
unfoldable pub fetch_of : GuestMemory → ℕ → Result ℕ Access
fetch_of m a = unless (read_refusal is_code_as 4 4 m a) (number_at 4 m a)

-- ---- writes

abbrev pub with_bytes : GuestMemory → ℕ → List ℕ → GuestMemory
with_bytes m a new = record m { bytes = pasted m.bytes a new }

-- bytes at rising addresses, which are numbers of one width: all are written or none
unfoldable pub write_of : ℕ → GuestMemory → ℕ → List ℕ → Result GuestMemory Access
write_of width m a new = unless (write_refusal width (length new) m a) (with_bytes m a new)

abbrev pub write8_of : GuestMemory → ℕ → ℕ → Result GuestMemory Access
write8_of m a v = write_of 1 m a (little_bytes 1 v)

abbrev pub write16_of : GuestMemory → ℕ → ℕ → Result GuestMemory Access
write16_of m a v = write_of 2 m a (little_bytes 2 v)

abbrev pub write32_of : GuestMemory → ℕ → ℕ → Result GuestMemory Access
write32_of m a v = write_of 4 m a (little_bytes 4 v)

-- words at rising addresses
abbrev pub write_words_of : GuestMemory → ℕ → List ℕ → Result GuestMemory Access
write_words_of m a values = write_of 4 m a (flat_map (little_bytes 4) values)
