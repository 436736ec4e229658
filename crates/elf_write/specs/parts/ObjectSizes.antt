-- How large the parts of an object can be, and where they stand.
use Rattle.std.specs.Prelude.{◌≡◌, ℕ, ◌+◌, ◌-◌, ◌*◌, ◌^◌, ◌<◌, ◌≤◌, List, length, map, All, IfSome, Option}
use Rattle.std.specs.Option.{option_map_or}
use Rattle.elf_model.specs.declared.constants.TheConstants.{PT_LOAD, PT_DYNAMIC, PF_R, SHT_PROGBITS, SHT_STRTAB, SHF_ALLOC}
use Rattle.elf_model.specs.declared.object.Object.{Object}
use Rattle.elf_model.specs.declared.object.Segment.{Segment}
use Rattle.elf_model.specs.declared.object.Symbol.{Symbol}
use Rattle.elf_model.specs.declared.table.ProgramHeader.{ProgramHeader}
use Rattle.elf_model.specs.declared.table.SectionHeader.{SectionHeader}
use Rattle.elf_model.specs.RelSound.{IsNameText}
use Rattle.elf_write.specs.declared.entries.Entry.{Entry}
use Rattle.elf_write.specs.declared.object_layout.ObjectLayout.{ObjectLayout}
use Rattle.elf_write.specs.declared.table_layout.TableLayout.{TableLayout}
use Rattle.elf_write.specs.Words.{table_bytes}
use Rattle.elf_write.specs.TableSegment.{entry_row, layout_of, dynamic_size, table_end}
use Rattle.elf_write.specs.ObjectFile as spec

-- the bytes of dynamic entries
abbrev pub entry_bytes : List Entry → List ℕ
entry_bytes es = table_bytes (map entry_row es)

-- a segment that can be aligned in a file, and whose bytes are not too many
pub record IsSegmentSmall (s : Segment) : Type 0 where
  pub some : 0 < s.align
  pub aligned : s.align ≤ 4096
  pub filled' : length s.filled < 2 ^ 32

-- segments that are small, and not too many
pub record AreSegmentsSmall (ss : List Segment) : Type 0 where
  pub each : All IsSegmentSmall ss
  pub few : length ss ≤ 7

-- the fields of a symbol fit into its row
pub record IsSymbolPacked (s : Symbol) : Type 0 where
  pub named : IfSome s.name IsNameText
  pub kind' : s.kind < 16
  pub binding' : s.binding < 16
  pub visibility' : s.visibility < 4

-- the tables stand in their order, and none far off
pub record IsTableOrder (l : TableLayout) : Type 0 where
  pub symbols' : l.hash ≤ l.symbols
  pub strings' : l.symbols ≤ l.strings
  pub rels' : l.strings ≤ l.rels
  pub jmprels' : l.rels ≤ l.jmprels
  pub fixups' : l.jmprels ≤ l.fixups
  pub dynamic' : l.fixups ≤ l.dynamic
  pub small : l.dynamic ≤ 2 ^ 40

-- how many bytes a file has that would have the names of sections and the section headers at these offsets
abbrev pub size_from : ℕ → ℕ → Option (List ℕ) → ℕ
size_from names sections fixups = option_map_or (λ _. sections + 120) fixups names

-- where the parts of the file stand, and how many bytes it has
pub record IsFileLayout (o : Object) (l : ObjectLayout) : Type 0 where
  pub tables' : l.tables ≡ spec.tables_offset o
  pub names' : l.names ≡ spec.names_offset o
  pub sections' : l.sections ≡ spec.sections_offset o
  pub size' : l.size ≡ length (spec.object_file o)

-- the parts of the file stand where they are to, below 2^32
pub record IsPlaced (o : Object) (t : TableLayout) (l : ObjectLayout) : Type 0 where
  pub layout : t ≡ layout_of o
  pub order : IsTableOrder t
  pub below : table_end o < 2 ^ 32
  pub tables' : l.tables ≡ spec.tables_offset o
  pub names' : l.names ≡ spec.names_offset o
  pub sections' : l.sections ≡ spec.sections_offset o
  pub fits : l.sections < 2 ^ 32

-- ---- headers, by where the parts stand

abbrev pub tables_load : TableLayout → ObjectLayout → ProgramHeader
tables_load t l = record {
  kind = PT_LOAD;
  offset = l.tables;
  vaddr = t.hash;
  filesz = l.names - l.tables;
  memsz = l.names - l.tables;
  flags = PF_R;
  align = 16;
}

abbrev pub dynamic_load : Object → TableLayout → ObjectLayout → ProgramHeader
dynamic_load o t l = record {
  kind = PT_DYNAMIC;
  offset = l.tables + (t.dynamic - t.hash);
  vaddr = t.dynamic;
  filesz = dynamic_size o;
  memsz = dynamic_size o;
  flags = PF_R;
  align = 4;
}

abbrev pub rofixup_place : List ℕ → TableLayout → ObjectLayout → SectionHeader
rofixup_place fixups t l = record {
  name = 1;
  kind = SHT_PROGBITS;
  flags = SHF_ALLOC;
  addr = t.fixups;
  offset = l.tables + (t.fixups - t.hash);
  size = 4 * (length fixups + 1);
  link = 0;
  info = 0;
  align = 4;
}

abbrev pub names_place : ObjectLayout → SectionHeader
names_place l = record {
  name = 10;
  kind = SHT_STRTAB;
  flags = 0;
  addr = 0;
  offset = l.names;
  size = 20;
  link = 0;
  info = 0;
  align = 1;
}
