-- What is known of the section headers where the tests of the header hold.
use Rattle.std.specs.Prelude.{ℕ, ◌+◌, ◌*◌, ◌^◌, ◌<◌, ◌≤◌, Bool, not, ◌||◌, List, length}
use Rattle.elf_model.specs.declared.constants.TheConstants.{EHDR_SIZE, SHDR_SIZE}
use Rattle.elf_model.specs.Header.{e_shoff, e_shnum, e_shstrndx, passes_end}
use Rattle.elf_model.specs.declared.table.SectionHeader.{SectionHeader}
use Rattle.elf_model.specs.RelSections.{is_nobits}

-- they lie in the file, and one of them is that of the names
pub record HasHeaders (bytes : List ℕ) : Type 0 where
  pub small : length bytes < 2 ^ 32
  pub long : EHDR_SIZE ≤ length bytes
  pub inside : e_shoff bytes + SHDR_SIZE * e_shnum bytes ≤ length bytes
  pub names : e_shstrndx bytes < e_shnum bytes
  pub few : e_shnum bytes < 2 ^ 16

-- whether the bytes of a section lie in the file
abbrev pub is_in_file : List ℕ → SectionHeader → Bool
is_in_file bytes h = is_nobits h || not (passes_end bytes h.offset h.size)
