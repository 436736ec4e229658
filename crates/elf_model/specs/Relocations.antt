-- The relocations and fixups of an object (gABI, "Relocation"; the kinds by ELF for the Arm Architecture and the Arm
-- FDPIC ABI).
use Rattle.std.specs.Prelude.{ℕ, ◌+◌, ◌*◌, ◌/◌, ◌%◌, Bool, false, not, ◌&&◌, ◌||◌, ◌==◌, nat_lt, List, [], ◌∷◌, ◌++◌, map, filter, take, Option, None, option_and_then, is_none, unwrap_or, if◌then◌else◌}
use Rattle.std.specs.Option.{option_map_or}
use Rattle.std.specs.List.{list_any, range_with_len}
use Rattle.fd_base.specs.Ranges.{spans}
use Rattle.fd_base.specs.Words.{word_in}
use Rattle.elf_model.specs.declared.constants.TheConstants.{R_OFFSET, R_INFO, GOT_HEADER_SIZE, REL_SIZE, DT_REL, DT_RELSZ, DT_JMPREL, DT_PLTRELSZ, R_ARM_NONE, R_ARM_ABS32, R_ARM_REL32, R_ARM_GLOB_DAT, R_ARM_RELATIVE, R_ARM_FUNCDESC, R_ARM_FUNCDESC_VALUE, MAX_ENTRIES}
use Rattle.elf_model.specs.declared.refusal.ElfKind.TheVariants.{Table, TooMany, RelocType, SiteRange, SiteOverlap}
use Rattle.elf_model.specs.declared.table.ProgramHeader.{ProgramHeader}
use Rattle.elf_model.specs.declared.table.DynEntry.{DynEntry}
use Rattle.elf_model.specs.declared.table.RelTable.{RelTable}
use Rattle.elf_model.specs.declared.table.RelTable.TheVariants.{Rel as InRel, JmpRel as InJmpRel}
use Rattle.elf_model.specs.declared.table.RelEntry.{RelEntry}
use Rattle.elf_model.specs.declared.table.Site.{Site}
use Rattle.elf_model.specs.declared.object.Rel.{Rel}
use Rattle.elf_model.specs.Test.{ElfTest, refuses, only_where, of_some, each_from}
use Rattle.elf_model.specs.Segments.{held_at, is_writable_at}
use Rattle.elf_model.specs.Dynamic.{first_of, value_of}

-- ---- the two tables

-- Where a table of whole entries at a link address stands in the file. None where its size isn't said or isn't that
-- of whole entries, or where they aren't held.
unfoldable pub rel_table_at : List ProgramHeader → ℕ → Option ℕ → Option ℕ
rel_table_at loads addr size = option_and_then (λ n. if n % REL_SIZE == 0 then held_at loads addr n else None) size

unfoldable pub rel_table_tests : List ProgramHeader → List DynEntry → ℕ → ℕ → List ElfTest
rel_table_tests loads entries table_tag size_tag = of_some (first_of table_tag entries) (λ e.
    refuses Table e.offset (is_none (rel_table_at loads e.value (value_of size_tag entries)))
    ∷ refuses TooMany e.offset (nat_lt MAX_ENTRIES (unwrap_or (value_of size_tag entries) 0 / REL_SIZE))
    ∷ [])

unfoldable pub both_table_tests : List ProgramHeader → List DynEntry → List ElfTest
both_table_tests loads entries =
    rel_table_tests loads entries DT_REL DT_RELSZ ++ rel_table_tests loads entries DT_JMPREL DT_PLTRELSZ

-- the entry at an offset of the file
unfoldable pub rel_entry : List ℕ → RelTable → ℕ → RelEntry
rel_entry bytes table offset = record {
  table = table;
  offset = offset;
  site = word_in bytes (offset + R_OFFSET);
  kind = word_in bytes (offset + R_INFO) % 256;
  symbol = word_in bytes (offset + R_INFO) / 256;
}

-- whether the entry at a link address lies inside the range of the slots' relocations
unfoldable pub is_slot_entry : List DynEntry → ℕ → Bool
is_slot_entry entries addr =
    option_map_or (λ first. spans first (unwrap_or (value_of DT_PLTRELSZ entries) 0) addr REL_SIZE) (value_of DT_JMPREL entries) false

-- which entries of DT_REL count as its own: a table may reach over that of the slots
abbrev pub own_places : List DynEntry → ℕ → ℕ → List ℕ
own_places entries addr n = filter (λ k. not (is_slot_entry entries (addr + REL_SIZE * k))) (range_with_len 0 (n / REL_SIZE))

-- the entries of a table, at these places of it
abbrev pub entries_at : List ℕ → RelTable → ℕ → List ℕ → List RelEntry
entries_at bytes table offset places = map (λ k. rel_entry bytes table (offset + REL_SIZE * k)) places

-- the entries of DT_REL
unfoldable pub rel_entries : List ℕ → List ProgramHeader → List DynEntry → List RelEntry
rel_entries bytes loads entries = option_map_or (λ addr.
    let n = unwrap_or (value_of DT_RELSZ entries) 0 in
    entries_at bytes InRel (unwrap_or (held_at loads addr n) 0) (own_places entries addr n))
    (value_of DT_REL entries) []

-- the entries of DT_JMPREL, one for each slot
unfoldable pub jmprel_entries : List ℕ → List ProgramHeader → List DynEntry → List RelEntry
jmprel_entries bytes loads entries = option_map_or (λ addr.
    let n = unwrap_or (value_of DT_PLTRELSZ entries) 0 in
    entries_at bytes InJmpRel (unwrap_or (held_at loads addr n) 0) (range_with_len 0 (n / REL_SIZE)))
    (value_of DT_JMPREL entries) []

-- both, in the order in which they are tested
abbrev pub all_rel_entries : List ℕ → List ProgramHeader → List DynEntry → List RelEntry
all_rel_entries bytes loads entries = rel_entries bytes loads entries ++ jmprel_entries bytes loads entries

-- ---- sites

-- a function's descriptor is two words, all else one
abbrev pub site_size : ℕ → ℕ
site_size kind = if kind == R_ARM_FUNCDESC_VALUE then 8 else 4

abbrev pub site_of : RelEntry → Site
site_of e = record { addr = e.site; size = site_size e.kind }

abbrev pub word_site : ℕ → Site
word_site addr = record { addr = addr; size = 4 }

-- the three words of the GOT that the loader fills
abbrev pub got_header : ℕ → Site
got_header got = record { addr = got; size = GOT_HEADER_SIZE }

-- whether two sites have a byte in common
unfoldable pub meets : Site → Site → Bool
meets a b = nat_lt a.addr (b.addr + b.size) && nat_lt b.addr (a.addr + a.size)

-- at a multiple of 4, in the memory of one writable segment
unfoldable pub is_in_place : List ProgramHeader → Site → Bool
is_in_place loads s = s.addr % 4 == 0 && is_writable_at loads s.addr s.size

-- the tests of a site that is named at an offset of the file, with the sites before it
unfoldable pub site_tests : List ProgramHeader → List Site → ℕ → Site → List ElfTest
site_tests loads earlier offset s =
    refuses SiteRange offset (not (is_in_place loads s))
    ∷ refuses SiteOverlap offset (list_any (λ e. meets s e) earlier)
    ∷ []

-- ---- each entry

-- the kinds that a table may have
abbrev pub kinds_of : RelTable → List ℕ
kinds_of InRel = R_ARM_NONE ∷ R_ARM_ABS32 ∷ R_ARM_REL32 ∷ R_ARM_GLOB_DAT ∷ R_ARM_RELATIVE ∷ R_ARM_FUNCDESC ∷ R_ARM_FUNCDESC_VALUE ∷ []
kinds_of InJmpRel = R_ARM_FUNCDESC_VALUE ∷ []

abbrev pub is_kind_of : RelTable → ℕ → Bool
is_kind_of table kind = list_any (λ k. k == kind) (kinds_of table)

-- one that fills nothing is passed over
abbrev pub fills : RelEntry → Bool
fills e = not (e.kind == R_ARM_NONE)

abbrev pub sites_of : List RelEntry → List Site
sites_of entries = map site_of (filter fills entries)

unfoldable pub rel_entry_tests : List ProgramHeader → ℕ → List Site → RelEntry → List ElfTest
rel_entry_tests loads symbol_count earlier e =
    refuses RelocType e.offset (not (is_kind_of e.table e.kind))
    ∷ refuses Table e.offset (not (e.symbol == 0 || nat_lt e.symbol symbol_count))
    ∷ only_where (fills e) (site_tests loads earlier e.offset (site_of e))

-- the sites before entry k: the header of the GOT, and those of the entries before it
abbrev pub sites_before : ℕ → List RelEntry → ℕ → List Site
sites_before got entries k = got_header got ∷ sites_of (take k entries)

unfoldable pub all_rel_tests : List ProgramHeader → ℕ → ℕ → List RelEntry → List ElfTest
all_rel_tests loads symbol_count got entries =
    each_from 0 (λ k e. rel_entry_tests loads symbol_count (sites_before got entries k) e) entries

-- the sites before fixup k: the header of the GOT, those of all entries, and the fixups before it
abbrev pub sites_before_fixup : ℕ → List RelEntry → List ℕ → ℕ → List Site
sites_before_fixup got entries fixups k = got_header got ∷ sites_of entries ++ map word_site (take k fixups)

-- the tests of the fixups, which stand in the file from an offset on
unfoldable pub fixup_tests : List ProgramHeader → ℕ → List RelEntry → ℕ → List ℕ → List ElfTest
fixup_tests loads got entries offset fixups =
    each_from 0 (λ k addr. site_tests loads (sites_before_fixup got entries fixups k) (offset + 4 * k) (word_site addr)) fixups

-- ---- the relocations themselves

abbrev pub rel_of : RelEntry → Rel
rel_of e = record { site = e.site; kind = e.kind; symbol = e.symbol }

abbrev pub rels_of : List RelEntry → List Rel
rels_of entries = map rel_of (filter fills entries)
