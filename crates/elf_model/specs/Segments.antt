-- The program headers of an object and its segments (gABI, "Program Header").
use Rattle.std.specs.Prelude.{ℕ, ◌+◌, ◌-◌, ◌*◌, ◌^◌, Bool, not, ◌&&◌, ◌||◌, ◌==◌, nat_lt, nat_le, List, [], ◌∷◌, length, map, filter, find, slice_range, Option, Some, option_map, bit_and, ◌≤◌, if◌then◌else◌}
use Rattle.std.specs.List.{list_any, range_with_len}
use Rattle.std.specs.Int.{is_power_of_two}
use Rattle.fd_base.specs.Ranges.{spans}
use Rattle.fd_base.specs.Words.{word_in}
use Rattle.elf_model.specs.declared.constants.TheConstants.{P_TYPE, P_OFFSET, P_VADDR, P_FILESZ, P_MEMSZ, P_FLAGS, P_ALIGN, E_PHNUM, PHDR_SIZE, PT_LOAD, PT_TLS, PF_X, PF_W, MAX_SEGMENTS}
use Rattle.elf_model.specs.declared.refusal.ElfKind.TheVariants.{Header, SegmentRange, SegmentOverlap, TooMany, Tls}
use Rattle.elf_model.specs.declared.table.ProgramHeader.{ProgramHeader}
use Rattle.elf_model.specs.declared.object.Segment.{Segment}
use Rattle.elf_model.specs.Test.{ElfTest, refuses, only_where, each_below}
use Rattle.elf_model.specs.Header.{e_phoff, e_phnum}

-- where program header i stands
abbrev pub header_offset : List ℕ → ℕ → ℕ
header_offset bytes i = e_phoff bytes + PHDR_SIZE * i

unfoldable pub program_header : List ℕ → ℕ → ProgramHeader
program_header bytes i = record {
  kind = word_in bytes (header_offset bytes i + P_TYPE);
  offset = word_in bytes (header_offset bytes i + P_OFFSET);
  vaddr = word_in bytes (header_offset bytes i + P_VADDR);
  filesz = word_in bytes (header_offset bytes i + P_FILESZ);
  memsz = word_in bytes (header_offset bytes i + P_MEMSZ);
  flags = word_in bytes (header_offset bytes i + P_FLAGS);
  align = word_in bytes (header_offset bytes i + P_ALIGN);
}

-- the first n program headers
abbrev pub headers_below : List ℕ → ℕ → List ProgramHeader
headers_below bytes n = map (program_header bytes) (range_with_len 0 n)

-- A loadable segment. One without memory is passed over.
abbrev pub is_load : ProgramHeader → Bool
is_load h = h.kind == PT_LOAD && nat_lt 0 h.memsz

-- the segments among the first n headers
abbrev pub loads_below : List ℕ → ℕ → List ProgramHeader
loads_below bytes n = filter is_load (headers_below bytes n)

-- the segments
abbrev pub loads : List ℕ → List ProgramHeader
loads bytes = loads_below bytes (e_phnum bytes)

-- ---- tests

-- whether a segment lies in a file of len bytes and ends below 2^32, and is aligned to nothing or a power of two
unfoldable pub is_in_range : ProgramHeader → ℕ → Bool
is_in_range h len =
    nat_le (h.offset + h.filesz) len
    && (nat_le h.filesz h.memsz && (nat_lt (h.vaddr + h.memsz) (2 ^ 32) && (h.align == 0 || is_power_of_two h.align)))

-- whether the memory of two segments meets
unfoldable pub memory_meets : ProgramHeader → ProgramHeader → Bool
memory_meets a b = nat_lt a.vaddr (b.vaddr + b.memsz) && nat_lt b.vaddr (a.vaddr + a.memsz)

-- the tests of a program header that stands at an offset of a file of len bytes, with the segments before it
unfoldable pub program_header_tests : ℕ → ℕ → ProgramHeader → List ProgramHeader → List ElfTest
program_header_tests len offset h earlier =
    refuses Tls offset (h.kind == PT_TLS && nat_lt 0 h.memsz)
    ∷ only_where (is_load h) (
    refuses TooMany offset (nat_le MAX_SEGMENTS (length earlier))
    ∷ refuses SegmentRange offset (not (is_in_range h len))
    ∷ refuses SegmentOverlap offset (list_any (λ e. memory_meets h e) earlier)
    ∷ [])

abbrev pub program_header_test : List ℕ → ℕ → List ElfTest
program_header_test bytes i =
    program_header_tests (length bytes) (header_offset bytes i) (program_header bytes i) (loads_below bytes i)

unfoldable pub segment_tests : List ℕ → List ElfTest
segment_tests bytes = each_below (e_phnum bytes) (program_header_test bytes)

unfoldable pub some_segment_tests : List ℕ → List ElfTest
some_segment_tests bytes = refuses Header E_PHNUM (length (loads bytes) == 0) ∷ []

-- ---- the segments themselves

abbrev pub segment : List ℕ → ProgramHeader → Segment
segment bytes h = record {
  vaddr = h.vaddr;
  memsz = h.memsz;
  flags = h.flags;
  align = h.align;
  filled = slice_range bytes h.offset (h.offset + h.filesz);
}

abbrev pub segments : List ℕ → List Segment
segments bytes = map (segment bytes) (loads bytes)

-- ---- where link addresses lie

-- whether n bytes at a link address are among the file's bytes of this segment
unfoldable pub holds : ProgramHeader → ℕ → ℕ → Bool
holds h addr n = spans h.vaddr h.filesz addr n

-- The offset in the file of n bytes at a link address that are held: among the file's bytes of one segment. No
-- bytes are held wherever they stand.
unfoldable pub held_at : List ProgramHeader → ℕ → ℕ → Option ℕ
held_at loads addr n =
    if n == 0 then Some 0
    else option_map (λ h. h.offset + (addr - h.vaddr)) (find (λ h. holds h addr n) loads)

-- whether n bytes at a link address are in the memory of this segment
abbrev pub is_in_memory : ProgramHeader → ℕ → ℕ → Bool
is_in_memory h addr n = spans h.vaddr h.memsz addr n

abbrev pub has_flag : ℕ → ℕ → Bool
has_flag flags flag = not (bit_and flags flag == 0)

-- whether n bytes at a link address are in the memory of one writable segment
unfoldable pub is_writable_at : List ProgramHeader → ℕ → ℕ → Bool
is_writable_at loads addr n = list_any (λ h. has_flag h.flags PF_W && is_in_memory h addr n) loads

-- whether a link address is in the memory of an executable segment
unfoldable pub is_executable_at : List ProgramHeader → ℕ → Bool
is_executable_at loads addr = list_any (λ h. has_flag h.flags PF_X && is_in_memory h addr 1) loads

-- whose bytes lie in a file of len bytes
abbrev pub InFile : ℕ → ProgramHeader → Type 0
InFile len h = h.offset + h.filesz ≤ len
