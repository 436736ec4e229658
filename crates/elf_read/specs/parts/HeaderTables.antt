-- What is known of the program headers and the section headers where the tests of the header hold.
use Rattle.std.specs.Prelude.{◌≡◌, ℕ, ◌+◌, ◌*◌, ◌^◌, ◌<◌, ◌≤◌, Bool, ◌&&◌, ◌==◌, List, length, All}
use Rattle.elf_model.specs.declared.constants.TheConstants.{EHDR_SIZE, PHDR_SIZE, SHDR_SIZE, SHT_DYNSYM}
use Rattle.elf_model.specs.declared.table.ProgramHeader.{ProgramHeader}
use Rattle.elf_model.specs.declared.table.SectionHeader.{SectionHeader}
use Rattle.elf_model.specs.Header.{e_phoff, e_phnum, e_shoff, e_shnum, e_shstrndx}
use Rattle.elf_model.specs.Sections.{section_header}
use Rattle.elf_model.specs.Segments as segment

-- the program headers lie in the file
abbrev pub HasProgramTable : List ℕ → Type 0
HasProgramTable bytes = e_phoff bytes + PHDR_SIZE * e_phnum bytes ≤ length bytes

-- where there are section headers they lie in the file, and one of them is that of the names
pub record HasSectionTable (bytes : List ℕ) : Type 0 where
  pub inside : 0 < e_shnum bytes → e_shoff bytes + SHDR_SIZE * e_shnum bytes ≤ length bytes
  pub names : 0 < e_shnum bytes → e_shstrndx bytes < e_shnum bytes

-- the headers of the segments to be loaded, read from a file whose header passed its tests
pub record HasLoads (bytes : List ℕ) (loads : List ProgramHeader) : Type 0 where
  pub small : length bytes < 2 ^ 32
  pub long : EHDR_SIZE ≤ length bytes
  pub table : HasProgramTable bytes
  pub sections : HasSectionTable bytes
  pub in_file : All (segment.InFile (length bytes)) loads
  pub are_loads : loads ≡ segment.loads bytes

-- the list of fixups that section i has lies in the file, with at least one word
pub record IsFixupList (bytes : List ℕ) (i : ℕ) : Type 0 where
  pub header : e_shoff bytes + SHDR_SIZE * i + SHDR_SIZE ≤ length bytes
  pub inside : (section_header bytes i).offset + (section_header bytes i).size ≤ length bytes
  pub some : 4 ≤ (section_header bytes i).size

-- whether a section has the symbols at a link address
abbrev pub is_symbols_at : ℕ → SectionHeader → Bool
is_symbols_at addr h = h.kind == SHT_DYNSYM && h.addr == addr
