-- The section headers of an object (gABI, "Sections"), of which two are looked at: the list of fixups of the FDPIC
-- ABI, and the symbols for dynamic linking.
use Rattle.std.specs.Prelude.{ℕ, ◌+◌, ◌*◌, ◌-◌, ◌/◌, ◌%◌, Bool, false, not, ◌&&◌, ◌||◌, ◌==◌, nat_lt, nat_eq, List, [], ◌∷◌, map, find, position, slice_range, Option, Some, None, option_map, option_and_then, codes, if◌then◌else◌}
use Rattle.std.specs.Option.{option_map_or}
use Rattle.std.specs.List.{range_with_len}
use lib.Pointwise.{pointwise}
use Rattle.fd_base.specs.Words.{word_in}
use Rattle.elf_model.specs.declared.constants.TheConstants.{SH_NAME, SH_TYPE, SH_FLAGS, SH_ADDR, SH_OFFSET, SH_SIZE, SH_LINK, SH_INFO, SH_ADDRALIGN, SHDR_SIZE, SYM_SIZE, SHT_DYNSYM}
use Rattle.elf_model.specs.declared.refusal.ElfKind.TheVariants.{Table}
use Rattle.elf_model.specs.declared.table.SectionHeader.{SectionHeader}
use Rattle.elf_model.specs.Test.{ElfTest, refuses, of_some}
use Rattle.elf_model.specs.Header.{e_shoff, e_shnum, e_shstrndx, passes_end}
use Rattle.elf_model.specs.Strings.{text_at}

-- where section header i stands
abbrev pub section_offset : List ℕ → ℕ → ℕ
section_offset bytes i = e_shoff bytes + SHDR_SIZE * i

unfoldable pub section_header : List ℕ → ℕ → SectionHeader
section_header bytes i = record {
  name = word_in bytes (section_offset bytes i + SH_NAME);
  kind = word_in bytes (section_offset bytes i + SH_TYPE);
  flags = word_in bytes (section_offset bytes i + SH_FLAGS);
  addr = word_in bytes (section_offset bytes i + SH_ADDR);
  offset = word_in bytes (section_offset bytes i + SH_OFFSET);
  size = word_in bytes (section_offset bytes i + SH_SIZE);
  link = word_in bytes (section_offset bytes i + SH_LINK);
  info = word_in bytes (section_offset bytes i + SH_INFO);
  align = word_in bytes (section_offset bytes i + SH_ADDRALIGN);
}

-- the section headers
abbrev pub section_headers : List ℕ → List SectionHeader
section_headers bytes = map (section_header bytes) (range_with_len 0 (e_shnum bytes))

-- ---- names

-- The names of the sections. A table that passes the end of the file has none.
unfoldable pub section_names : List ℕ → List ℕ
section_names bytes =
    let h = section_header bytes (e_shstrndx bytes) in
    if passes_end bytes h.offset h.size then [] else slice_range bytes h.offset (h.offset + h.size)

-- Whether a section has this name. One whose name can't be read has another.
unfoldable pub is_named : List ℕ → List ℕ → SectionHeader → Bool
is_named names wanted h = option_map_or (λ text. pointwise nat_eq text wanted) (text_at names h.name) false

-- ---- the list of fixups (Arm FDPIC ABI, the section .rofixup: link addresses of words, and last that of the GOT)

-- which section is the first of the name
unfoldable pub rofixup_place : List ℕ → Option ℕ
rofixup_place bytes = position (is_named (section_names bytes) (codes ".rofixup")) (section_headers bytes)

-- which section has the list of fixups: the first of the name, unless it has no bytes
unfoldable pub rofixup : List ℕ → Option ℕ
rofixup bytes = option_and_then (λ i. if nat_lt 0 (section_header bytes i).size then Some i else None) (rofixup_place bytes)

unfoldable pub rofixup_tests : List ℕ → List ElfTest
rofixup_tests bytes = of_some (rofixup bytes) (λ i.
    refuses Table (section_offset bytes i) (
    passes_end bytes (section_header bytes i).offset (section_header bytes i).size
    || not ((section_header bytes i).size % 4 == 0))
    ∷ [])

-- where the word k of the list stands in the file
abbrev pub rofixup_offset : List ℕ → ℕ → ℕ → ℕ
rofixup_offset bytes i k = (section_header bytes i).offset + 4 * k

-- how many words there are before the last
abbrev pub fixup_count : List ℕ → ℕ → ℕ
fixup_count bytes i = (section_header bytes i).size / 4 - 1

-- the link addresses that the list names, without its last word
abbrev pub fixups_of : List ℕ → ℕ → List ℕ
fixups_of bytes i = map (λ k. word_in bytes (rofixup_offset bytes i k)) (range_with_len 0 (fixup_count bytes i))

-- the last word, the link address of the GOT
abbrev pub listed_got : List ℕ → ℕ → ℕ
listed_got bytes i = word_in bytes (rofixup_offset bytes i (fixup_count bytes i))

-- ---- the symbols for dynamic linking

-- the number of symbols by the first section of such symbols at a link address
unfoldable pub section_symbol_count : List ℕ → ℕ → Option ℕ
section_symbol_count bytes addr =
    option_map (λ h. h.size / SYM_SIZE) (find (λ h. h.kind == SHT_DYNSYM && h.addr == addr) (section_headers bytes))
