-- The relocations of a relocatable file (gABI, "Relocation").
use Rattle.std.specs.Prelude.{ℕ, ◌+◌, ◌*◌, ◌/◌, ◌%◌, Bool, not, ◌&&◌, ◌||◌, ◌==◌, nat_lt, List, [], ◌∷◌, ◌++◌, map, filter}
use Rattle.std.specs.List.{flat_map, range_with_len, sum_by}
use Rattle.elf_model.specs.declared.constants.TheConstants.{REL_SIZE, SHT_REL, SHT_RELA, MAX_ENTRIES, MAX_SECTIONS_ENTRIES}
use Rattle.elf_model.specs.declared.refusal.ElfKind.TheVariants.{Rela, Table, TooMany, SiteRange}
use Rattle.elf_model.specs.declared.table.SectionHeader.{SectionHeader}
use Rattle.elf_model.specs.declared.table.RelTable.TheVariants.{Rel as InRel}
use Rattle.elf_model.specs.declared.table.RelEntry.{RelEntry}
use Rattle.elf_model.specs.declared.object.Rel.{Rel}
use Rattle.elf_model.specs.Test.{ElfTest, refuses, only_where, each_below}
use Rattle.elf_model.specs.Header.{e_shnum, is_one_of, passes_end}
use Rattle.elf_model.specs.Sections.{section_offset, section_header, section_headers}
use Rattle.elf_model.specs.Relocations.{rel_entry, rel_of}
use Rattle.elf_model.specs.RelSections.{is_kept_at, is_nobits, section_headers_below}
use Rattle.elf_model.specs.RelSymbols.{symbol_count}

-- whether the section has the relocations of a kept section, which its info names
unfoldable pub relocates : List ℕ → SectionHeader → Bool
relocates bytes h = is_one_of (SHT_REL ∷ SHT_RELA ∷ []) h.kind && is_kept_at bytes h.info

abbrev pub entry_count : SectionHeader → ℕ
entry_count h = h.size / REL_SIZE

-- the entries of such a section, together with those of the ones before it
abbrev pub entries_so_far : List ℕ → ℕ → ℕ
entries_so_far bytes i =
    sum_by entry_count (filter (relocates bytes) (section_headers_below bytes i)) + entry_count (section_header bytes i)

abbrev pub entry_of : List ℕ → SectionHeader → ℕ → RelEntry
entry_of bytes h k = rel_entry bytes InRel (h.offset + REL_SIZE * k)

-- the word at its site lies in the section, which has bytes in the file
unfoldable pub entry_tests : List ℕ → SectionHeader → ℕ → List ElfTest
entry_tests bytes h k =
    let e = entry_of bytes h k in
    let relocated = section_header bytes h.info in
    refuses Table e.offset (not (e.symbol == 0 || nat_lt e.symbol (symbol_count bytes)))
    ∷ refuses SiteRange e.offset (is_nobits relocated || nat_lt relocated.size (e.site + 4))
    ∷ []

unfoldable pub relocating_tests : List ℕ → ℕ → List ElfTest
relocating_tests bytes i =
    let h = section_header bytes i in
    let at = section_offset bytes i in
    (refuses Rela at (h.kind == SHT_RELA)
    ∷ refuses Table at (passes_end bytes h.offset h.size || not (h.size % REL_SIZE == 0))
    ∷ refuses TooMany at (nat_lt MAX_ENTRIES (entry_count h) || nat_lt MAX_SECTIONS_ENTRIES (entries_so_far bytes i))
    ∷ [])
    ++ each_below (entry_count h) (entry_tests bytes h)

-- header by header, each with its entries
unfoldable pub all_relocating_tests : List ℕ → List ElfTest
all_relocating_tests bytes =
    each_below (e_shnum bytes) (λ i. only_where (relocates bytes (section_header bytes i)) (relocating_tests bytes i))

-- ---- the relocations themselves

abbrev pub rels_in : List ℕ → SectionHeader → List Rel
rels_in bytes h = map (λ k. rel_of (entry_of bytes h k)) (range_with_len 0 (entry_count h))

-- those of the section of an index: of all sections that have them, in the order of their headers
unfoldable pub rels_at : List ℕ → ℕ → List Rel
rels_at bytes i = flat_map (rels_in bytes) (filter (λ h. h.kind == SHT_REL && h.info == i) (section_headers bytes))
