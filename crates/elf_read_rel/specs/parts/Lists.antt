-- The relocations of kept sections, by the index of their headers.
use Rattle.std.specs.Prelude.{◌≡◌, ℕ, ◌%◌, ◌≤◌, Bool, true, not, ◌&&◌, ◌||◌, ◌==◌, nat_lt, List, [], ◌∷◌, length, filter, get_or}
use Rattle.std.specs.List.{flat_map, sum_by}
use Rattle.elf_model.specs.declared.constants.TheConstants.{REL_SIZE, SHT_REL, SHT_RELA, MAX_ENTRIES, MAX_SECTIONS_ENTRIES}
use Rattle.elf_model.specs.declared.refusal.ElfKind.TheVariants.{Rela, Table, TooMany}
use Rattle.elf_model.specs.declared.object.Rel.{Rel}
use Rattle.elf_model.specs.declared.table.SectionHeader.{SectionHeader}
use Rattle.elf_model.specs.Test.{ElfTest, refuses}
use Rattle.elf_model.specs.Header.{e_shnum, passes_end}
use Rattle.elf_model.specs.Sections.{section_header, section_offset}
use Rattle.elf_model.specs.RelSections.{is_kept_at, section_headers_below}
use Rattle.elf_model.specs.RelEntries.{relocates, entry_count, entries_so_far, rels_in, rels_at}
use Rattle.elf_read_rel.specs.declared.relocations.Lists.{Lists}

-- the tests of a table of relocations before those of its entries
abbrev pub table_tests : List ℕ → ℕ → List ElfTest
table_tests bytes i =
    let h = section_header bytes i in
    let at = section_offset bytes i in
    refuses Rela at (h.kind == SHT_RELA)
    ∷ refuses Table at (passes_end bytes h.offset h.size || not (h.size % REL_SIZE == 0))
    ∷ refuses TooMany at (nat_lt MAX_ENTRIES (entry_count h) || nat_lt MAX_SECTIONS_ENTRIES (entries_so_far bytes i))
    ∷ []

-- whether a header has relocations of the section of an index
abbrev pub has_rels_of : ℕ → SectionHeader → Bool
has_rels_of i h = h.kind == SHT_REL && h.info == i

-- the relocations of a section that the first n headers have
abbrev pub rels_below : List ℕ → ℕ → ℕ → List Rel
rels_below bytes n i = flat_map (rels_in bytes) (filter (has_rels_of i) (section_headers_below bytes n))

-- the first n headers are done
pub record HasLists (bytes : List ℕ) (n : ℕ) (lists : Lists) : Type 0 where
  pub whole : length lists.rels.items ≡ e_shnum bytes
  pub rels' : (i : ℕ) → is_kept_at bytes i ≡ true → get_or lists.rels.items i [] ≡ rels_below bytes n i
  pub count : lists.count ≡ sum_by entry_count (filter (relocates bytes) (section_headers_below bytes n))
  pub few : lists.count ≤ MAX_SECTIONS_ENTRIES

-- all are done
pub record HasRels (bytes : List ℕ) (lists : List (List Rel)) : Type 0 where
  pub whole : length lists ≡ e_shnum bytes
  pub rels' : (i : ℕ) → is_kept_at bytes i ≡ true → get_or lists i [] ≡ rels_at bytes i
