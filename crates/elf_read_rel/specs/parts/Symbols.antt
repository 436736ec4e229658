-- What is known of the section of the symbols where its tests hold.
use Rattle.std.specs.Prelude.{ℕ, ◌+◌, ◌/◌, ◌%◌, ◌<◌, ◌≤◌, Bool, not, ◌&&◌, ◌==◌, List, length}
use Rattle.elf_model.specs.declared.constants.TheConstants.{SYM_SIZE, SHN_COMMON, MAX_ENTRIES}
use Rattle.elf_model.specs.declared.table.SymbolEntry.{SymbolEntry}
use Rattle.elf_model.specs.Header.{e_shnum}
use Rattle.elf_model.specs.Symbols.{is_defined_function}
use Rattle.elf_model.specs.Sections.{section_header}

-- its symbols and their strings lie in the file
pub record HasSymbols (bytes : List ℕ) (i : ℕ) : Type 0 where
  pub there : i < e_shnum bytes
  pub inside : (section_header bytes i).offset + (section_header bytes i).size ≤ length bytes
  pub few : (section_header bytes i).size / SYM_SIZE ≤ MAX_ENTRIES
  pub linked : (section_header bytes i).link < e_shnum bytes
  pub strings : (section_header bytes (section_header bytes i).link).offset + (section_header bytes (section_header bytes i).link).size ≤ length bytes

-- a function at an odd address
abbrev pub is_thumb : SymbolEntry → Bool
is_thumb e = is_defined_function e && (not (e.section == SHN_COMMON) && e.value % 2 == 1)
