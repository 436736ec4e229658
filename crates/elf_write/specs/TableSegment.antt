-- The segment of tables, which a written object has behind its own segments: what the dynamic section names, and the
-- dynamic section (gABI, "Dynamic Section").
use Rattle.std.specs.Prelude.{ℕ, ◌+◌, ◌*◌, ◌-◌, ◌/◌, ◌==◌, max, Bool, List, [], ◌∷◌, ◌++◌, length, map, Option, Some, if◌then◌else◌}
use Rattle.std.specs.Option.{option_map_or}
use Rattle.fd_base.specs.Words.{word_bytes}
use Rattle.elf_model.specs.declared.constants.TheConstants.{SYM_SIZE, REL_SIZE, DYN_SIZE, PF_R, SHN_UNDEF, SHN_ABS, DT_NULL, DT_NEEDED, DT_PLTRELSZ, DT_PLTGOT, DT_HASH, DT_STRTAB, DT_SYMTAB, DT_STRSZ, DT_SYMENT, DT_INIT, DT_FINI, DT_SONAME, DT_SYMBOLIC, DT_REL, DT_RELSZ, DT_RELENT, DT_PLTREL, DT_JMPREL, DT_BIND_NOW, DT_INIT_ARRAY, DT_FINI_ARRAY, DT_INIT_ARRAYSZ, DT_FINI_ARRAYSZ}
use Rattle.elf_model.specs.declared.object.Extent.{Extent}
use Rattle.elf_model.specs.declared.object.Inits.{Inits}
use Rattle.elf_model.specs.declared.object.Object.{Object}
use Rattle.elf_model.specs.declared.object.Place.{Place}
use Rattle.elf_model.specs.declared.object.Place.TheVariants.{Undefined, Absolute, Here, Common, Section, Dropped}
use Rattle.elf_model.specs.declared.object.Rel.{Rel}
use Rattle.elf_model.specs.declared.object.Segment.{Segment}
use Rattle.elf_model.specs.declared.object.Symbol.{Symbol}
use Rattle.elf_write.specs.declared.entries.Entry.{Entry}
use Rattle.elf_write.specs.declared.table_layout.TableLayout.{TableLayout}
use Rattle.elf_write.specs.Words.{symbol_row, rel_row, table_bytes, zeros, aligned}
use Rattle.elf_write.specs.Strings as string
use Rattle.elf_write.specs.Strings.{strings, behind}
use Rattle.elf_write.specs.HashTable.{hash_words}

-- ---- where it begins

-- where the memory of these segments ends
abbrev pub memory_end : List Segment → ℕ
memory_end [] = 0
memory_end (s ∷ ss) = max (s.vaddr + s.memsz) (memory_end ss)

-- at the first multiple of 4,096 above the other segments
abbrev pub tables_vaddr : Object → ℕ
tables_vaddr o = 0x1000 * (memory_end o.segments / 0x1000 + 1)

-- ---- symbols and strings

-- the index of a symbol's section: whatever this object defines is in one
abbrev pub index_of : Place → ℕ
index_of Undefined = SHN_UNDEF
index_of Absolute = SHN_ABS
index_of Here = 1
index_of Common = SHN_UNDEF
index_of (Section i) = SHN_UNDEF
index_of Dropped = SHN_UNDEF

-- the rows of symbols, the first name of which would begin at an offset of the strings
abbrev pub symbol_rows : ℕ → List Symbol → List (List ℕ)
symbol_rows at [] = []
symbol_rows at (s ∷ ss) = symbol_row (string.place_of at s.name) (index_of s.place) s ∷ symbol_rows (behind at s.name) ss

abbrev pub symbol_names : Object → List (Option (List ℕ))
symbol_names o = map (λ s. s.name) o.symbols

-- the names of symbols, the object's own name, and those of what it needs
abbrev pub name_strings : Object → List ℕ
name_strings o = strings (symbol_names o ++ (o.soname ∷ map Some o.needed))

abbrev pub soname_place : Object → ℕ
soname_place o = length (strings (symbol_names o))

abbrev pub needed_place : Object → ℕ
needed_place o = behind (soname_place o) o.soname

-- bytes with zeros behind them up to a multiple of 4
abbrev pub padded : List ℕ → List ℕ
padded bytes = bytes ++ zeros (aligned 4 (length bytes) - length bytes)

-- ---- fixups

-- the link addresses that are listed, and last that of the GOT
abbrev pub fixup_words : Object → List ℕ
fixup_words o = option_map_or (λ fixups. fixups ++ o.got ∷ []) o.fixups []

-- ---- where the tables stand

abbrev pub layout_of : Object → TableLayout
layout_of o =
    let hash = tables_vaddr o in
    let symbols = hash + 4 * length (hash_words o.symbols) in
    let strings = symbols + SYM_SIZE * length o.symbols in
    let rels = strings + length (padded (name_strings o)) in
    let jmprels = rels + REL_SIZE * length o.rels in
    let fixups = jmprels + REL_SIZE * length o.jmprels in
    let dynamic = fixups + 4 * length (fixup_words o) in
    record {
      hash = hash;
      symbols = symbols;
      strings = strings;
      rels = rels;
      jmprels = jmprels;
      fixups = fixups;
      dynamic = dynamic;
    }

-- ---- the dynamic section

abbrev pub entry : ℕ → ℕ → Entry
entry tag value = record { tag = tag; value = value }

-- one where there is a value
abbrev pub entry_if : ℕ → Option ℕ → List Entry
entry_if tag value = option_map_or (λ v. entry tag v ∷ []) value []

-- one without a value, where b is true
abbrev pub flag_if : ℕ → Bool → List Entry
flag_if tag b = if b then entry tag 0 ∷ [] else []

-- those of needed names, the first of which begins at an offset of the strings
abbrev pub needed_entries : ℕ → List (List ℕ) → List Entry
needed_entries at [] = []
needed_entries at (name ∷ names) = entry DT_NEEDED at ∷ needed_entries (behind at (Some name)) names

abbrev pub name_entries : Object → List Entry
name_entries o = needed_entries (needed_place o) o.needed ++ option_map_or (λ name. entry DT_SONAME (soname_place o) ∷ []) o.soname []

abbrev pub rel_entries : ℕ → List Rel → List Entry
rel_entries at rels =
    if length rels == 0 then []
    else entry DT_REL at ∷ entry DT_RELSZ (REL_SIZE * length rels) ∷ entry DT_RELENT REL_SIZE ∷ []

abbrev pub slot_entries : ℕ → List Rel → List Entry
slot_entries at slots =
    if length slots == 0 then []
    else entry DT_JMPREL at ∷ entry DT_PLTRELSZ (REL_SIZE * length slots) ∷ entry DT_PLTREL DT_REL ∷ []

abbrev pub table_entries : TableLayout → Object → List Entry
table_entries l o =
    entry DT_HASH l.hash ∷ entry DT_STRTAB l.strings ∷ entry DT_STRSZ (length (name_strings o))
    ∷ entry DT_SYMTAB l.symbols ∷ entry DT_SYMENT SYM_SIZE
    ∷ (rel_entries l.rels o.rels ++ slot_entries l.jmprels o.jmprels)

abbrev pub array_entries : ℕ → ℕ → Option Extent → List Entry
array_entries addr_tag size_tag array = option_map_or (λ e. entry addr_tag e.addr ∷ entry size_tag e.size ∷ []) array []

abbrev pub init_entries : Inits → List Entry
init_entries inits =
    entry_if DT_INIT inits.init
    ++ (entry_if DT_FINI inits.fini
    ++ (array_entries DT_INIT_ARRAY DT_INIT_ARRAYSZ inits.init_array
    ++ array_entries DT_FINI_ARRAY DT_FINI_ARRAYSZ inits.fini_array))

abbrev pub other_entries : Object → List Entry
other_entries o = entry DT_PLTGOT o.got ∷ (flag_if DT_SYMBOLIC o.symbolic ++ (flag_if DT_BIND_NOW o.now ++ init_entries o.inits))

-- the entries before the NULL
abbrev pub entries : Object → List Entry
entries o = name_entries o ++ (table_entries (layout_of o) o ++ other_entries o)

abbrev pub null_entry : Entry
null_entry = entry DT_NULL 0

abbrev pub entry_row : Entry → List ℕ
entry_row e = e.tag ∷ e.value ∷ []

abbrev pub dynamic_size : Object → ℕ
dynamic_size o = DYN_SIZE * (length (entries o) + 1)

-- ---- the segment

unfoldable pub tables : Object → List ℕ
tables o =
    word_bytes (hash_words o.symbols)
    ++ (table_bytes (symbol_rows 1 o.symbols)
    ++ (padded (name_strings o)
    ++ (table_bytes (map rel_row o.rels)
    ++ (table_bytes (map rel_row o.jmprels)
    ++ (word_bytes (fixup_words o)
    ++ table_bytes (map entry_row (entries o ++ null_entry ∷ [])))))))

-- where it ends
abbrev pub table_end : Object → ℕ
table_end o = (layout_of o).dynamic + dynamic_size o

abbrev pub table_segment : Object → Segment
table_segment o = record { vaddr = tables_vaddr o; memsz = length (tables o); flags = PF_R; align = 16; filled = tables o }

-- the object that is read from the written file
abbrev pub with_tables : Object → Object
with_tables o = record {
  kind = o.kind;
  entry = o.entry;
  segments = o.segments ++ table_segment o ∷ [];
  got = o.got;
  needed = o.needed;
  soname = o.soname;
  symbols = o.symbols;
  rels = o.rels;
  jmprels = o.jmprels;
  fixups = o.fixups;
  symbolic = o.symbolic;
  now = o.now;
  inits = o.inits;
}
