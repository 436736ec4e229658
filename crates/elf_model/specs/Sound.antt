-- What holds of every accepted object, for those who place it: its segments fit and are apart, and whatever loading
-- fills lies whole in one writable segment.
use Rattle.std.specs.Prelude.{◌≡◌, ℕ, ◌+◌, ◌%◌, ◌^◌, ◌<◌, ◌≤◌, ◌⊎◌, true, ◌||◌, ◌==◌, List, length, All, AllPairs}
use Rattle.std.specs.Int.{is_power_of_two}
use Rattle.elf_model.specs.declared.constants.TheConstants.{MAX_SEGMENTS, MAX_ENTRIES, R_ARM_FUNCDESC_VALUE}
use Rattle.elf_model.specs.declared.table.Site.{Site}
use Rattle.elf_model.specs.declared.object.Object.{Object}
use Rattle.elf_model.specs.declared.object.Segment.{Segment}
use Rattle.elf_model.specs.Places.{is_writable_in, filled_ranges}
use Rattle.elf_model.specs.Object.{IsObject}

-- a segment with memory, which ends below 2^32, has room for the file's bytes, and is aligned to nothing or to a power of
-- two (gABI, "Program Header")
pub record IsSized (s : Segment) : Type 0 where
  pub some : 0 < s.memsz
  pub end : s.vaddr + s.memsz < 2 ^ 32
  pub filled : length s.filled ≤ s.memsz
  pub aligned : (s.align == 0 || is_power_of_two s.align) ≡ true

-- two segments share no link address
abbrev pub SegmentsApart : Segment → Segment → Type 0
SegmentsApart s t = (s.vaddr + s.memsz ≤ t.vaddr) ⊎ (t.vaddr + t.memsz ≤ s.vaddr)

-- two ranges share no link address
abbrev pub RangesApart : Site → Site → Type 0
RangesApart r q = (r.addr + r.size ≤ q.addr) ⊎ (q.addr + q.size ≤ r.addr)

-- a range lies in the segment, or meets none of it
abbrev pub IsWhole : Segment → Site → Type 0
IsWhole s r =
    ((s.vaddr ≤ r.addr) × (r.addr + r.size ≤ s.vaddr + s.memsz))
    ⊎ ((r.addr + r.size ≤ s.vaddr) ⊎ (s.vaddr + s.memsz ≤ r.addr))

-- at a multiple of 4, in the memory of one writable segment
pub record IsInPlace (ss : List Segment) (r : Site) : Type 0 where
  pub aligned : r.addr % 4 ≡ 0
  pub writable : is_writable_in ss r.addr r.size ≡ true

pub record IsSound (o : Object) : Type 0 where
  pub few : length o.segments ≤ MAX_SEGMENTS
  pub apart : AllPairs SegmentsApart o.segments
  pub sized : All IsSized o.segments
  pub in_place : All (IsInPlace o.segments) (filled_ranges o)
  pub whole : All (λ s. All (IsWhole s) (filled_ranges o)) o.segments
  pub distinct : AllPairs RangesApart (filled_ranges o)
  pub slot_kinds : All (λ r. r.kind ≡ R_ARM_FUNCDESC_VALUE) o.jmprels
  pub few_rels : length o.rels ≤ MAX_ENTRIES
  pub few_slots : length o.jmprels ≤ MAX_ENTRIES

-- the law
abbrev pub AcceptedIsSound : Type 0
AcceptedIsSound = (bytes : List ℕ) (o : Object) → IsObject bytes o → IsSound o
