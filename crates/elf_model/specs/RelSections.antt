-- The sections of a relocatable file (gABI, "Sections"). Kept are those that have memory at run time, and they are
-- numbered by their place among the kept.
use Rattle.std.specs.Prelude.{ℕ, ◌+◌, Bool, not, ◌&&◌, ◌||◌, ◌==◌, nat_lt, nat_le, List, [], ◌∷◌, length, map, filter, slice_range, is_none, if◌then◌else◌}
use Rattle.std.specs.Int.{is_power_of_two}
use Rattle.std.specs.List.{range_with_len, sum_by}
use Rattle.elf_model.specs.declared.constants.TheConstants.{E_SHNUM, SHT_PROGBITS, SHT_NOTE, SHT_NOBITS, SHT_INIT_ARRAY, SHT_FINI_ARRAY, SHT_GROUP, SHF_ALLOC, SHF_TLS, MAX_SECTION_ALIGN, MAX_SECTION_BYTES}
use Rattle.elf_model.specs.declared.refusal.ElfKind.TheVariants.{Header, Group, Tls, Table, TooMany, NameRange}
use Rattle.elf_model.specs.declared.table.SectionHeader.{SectionHeader}
use Rattle.elf_model.specs.Test.{ElfTest, refuses, only_where, each_below}
use Rattle.elf_model.specs.Header.{e_shnum, is_one_of, passes_end, present_table_tests}
use Rattle.elf_model.specs.Sections.{section_offset, section_header, section_names}
use Rattle.elf_model.specs.Segments.{has_flag}
use Rattle.elf_model.specs.Strings.{string_at}

-- there are section headers
unfoldable pub needed_table_tests : List ℕ → List ElfTest
needed_table_tests bytes = refuses Header E_SHNUM (e_shnum bytes == 0) ∷ present_table_tests bytes

-- ---- kept sections

abbrev pub kept_kinds : List ℕ
kept_kinds = SHT_PROGBITS ∷ SHT_NOTE ∷ SHT_NOBITS ∷ SHT_INIT_ARRAY ∷ SHT_FINI_ARRAY ∷ []

abbrev pub is_kept : SectionHeader → Bool
is_kept h = has_flag h.flags SHF_ALLOC && is_one_of kept_kinds h.kind

-- a section of zeros, which has no bytes in the file
abbrev pub is_nobits : SectionHeader → Bool
is_nobits h = h.kind == SHT_NOBITS

-- the first n section headers, and those of kept sections among them
abbrev pub section_headers_below : List ℕ → ℕ → List SectionHeader
section_headers_below bytes n = map (section_header bytes) (range_with_len 0 n)

abbrev pub kept_below : List ℕ → ℕ → List SectionHeader
kept_below bytes n = filter is_kept (section_headers_below bytes n)

-- whether the section header of an index is there and its section is kept
unfoldable pub is_kept_at : List ℕ → ℕ → Bool
is_kept_at bytes i = nat_lt i (e_shnum bytes) && is_kept (section_header bytes i)

-- the number of a kept section
abbrev pub kept_number : List ℕ → ℕ → ℕ
kept_number bytes i = length (kept_below bytes i)

-- ---- tests

abbrev pub bytes_in_file : SectionHeader → ℕ
bytes_in_file h = if is_nobits h then 0 else h.size

-- the bytes of a section in the file, together with those of the kept sections before it
abbrev pub bytes_so_far : List ℕ → ℕ → ℕ
bytes_so_far bytes i = sum_by bytes_in_file (kept_below bytes i) + bytes_in_file (section_header bytes i)

abbrev pub is_section_align : ℕ → Bool
is_section_align align = align == 0 || (is_power_of_two align && nat_le align MAX_SECTION_ALIGN)

-- whether its bytes lie in the file, and it isn't too large
abbrev pub is_section_range : List ℕ → SectionHeader → Bool
is_section_range bytes h =
    (is_nobits h || not (passes_end bytes h.offset h.size)) && nat_le h.size MAX_SECTION_BYTES

unfoldable pub kept_tests : List ℕ → ℕ → List ElfTest
kept_tests bytes i =
    let h = section_header bytes i in
    let at = section_offset bytes i in
    refuses Tls at (has_flag h.flags SHF_TLS)
    ∷ refuses Table at (not (is_section_align h.align && is_section_range bytes h))
    ∷ refuses TooMany at (nat_lt MAX_SECTION_BYTES (bytes_so_far bytes i))
    ∷ refuses NameRange at (is_none (string_at (section_names bytes) h.name))
    ∷ []

unfoldable pub section_tests : List ℕ → ℕ → List ElfTest
section_tests bytes i =
    refuses Group (section_offset bytes i) ((section_header bytes i).kind == SHT_GROUP)
    ∷ only_where (is_kept (section_header bytes i)) (kept_tests bytes i)

unfoldable pub all_section_tests : List ℕ → List ElfTest
all_section_tests bytes = each_below (e_shnum bytes) (section_tests bytes)

-- ---- their bytes

unfoldable pub section_bytes : List ℕ → SectionHeader → List ℕ
section_bytes bytes h = if is_nobits h then [] else slice_range bytes h.offset (h.offset + h.size)
