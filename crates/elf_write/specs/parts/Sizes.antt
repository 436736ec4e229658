-- How large the parts of a relocatable file can be.
use Rattle.std.specs.Prelude.{◌≡◌, ◌+◌, ◌*◌, ◌^◌, ◌<◌, ◌≤◌, true, List, length, All, IfSome}
use Rattle.elf_model.specs.declared.constants.TheConstants.{MAX_ENTRIES, MAX_SECTION_BYTES, MAX_SECTION_ALIGN}
use Rattle.elf_model.specs.declared.object.Symbol.{Symbol}
use Rattle.elf_model.specs.declared.relocatable.RelSection.{RelSection}
use Rattle.elf_model.specs.RelSound.{IsNameText, is_place_among}
use Rattle.elf_write.specs.declared.rel_layout.RelLayout.{RelLayout}
use Rattle.elf_write.specs.declared.limits.TheConstants.{MAX_WRITTEN_SECTIONS}

-- a section whose bytes and relocations are not too many
pub record IsSmall (s : RelSection) : Type 0 where
  pub named : IfSome s.name IsNameText
  pub aligned : s.align ≤ MAX_SECTION_ALIGN
  pub filled' : length s.filled ≤ MAX_SECTION_BYTES
  pub rels' : length s.rels ≤ MAX_ENTRIES

-- sections that are small, and not too many
pub record AreSmall (sections : List RelSection) : Type 0 where
  pub each : All IsSmall sections
  pub few : length sections ≤ MAX_WRITTEN_SECTIONS

-- the parts stand in their order, and none far off
pub record IsLayoutSmall (l : RelLayout) : Type 0 where
  pub symbols' : l.rels ≤ l.symbols
  pub strings' : l.symbols ≤ l.strings
  pub names' : l.strings ≤ l.names
  pub headers' : l.names ≤ l.headers
  pub small : l.headers ≤ 2 ^ 40
  pub few : l.symtab ≤ 1 + 2 * MAX_WRITTEN_SECTIONS

-- the fields of a symbol fit into its row
pub record IsPacked (s : Symbol) : Type 0 where
  pub named : IfSome s.name IsNameText
  pub kind' : s.kind < 16
  pub binding' : s.binding < 16
  pub visibility' : s.visibility < 4
  pub placed : is_place_among MAX_WRITTEN_SECTIONS s.place ≡ true
