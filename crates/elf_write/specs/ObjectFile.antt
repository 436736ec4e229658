-- The bytes of an executable or a shared object: the header, the program headers, the bytes of the segments, the last of
-- which has the tables, and where there are fixups the section headers by which they are found (gABI, "ELF Header",
-- "Program Header" and "Sections"; Arm FDPIC ABI for `.rofixup`).
use Rattle.std.specs.Prelude.{ℕ, ◌+◌, ◌*◌, ◌-◌, List, [], ◌∷◌, ◌++◌, length, map, codes, Some, is_some, if◌then◌else◌}
use Rattle.std.specs.Option.{option_map_or}
use Rattle.fd_base.specs.Words.{word_bytes}
use Rattle.elf_model.specs.declared.constants.TheConstants.{ET_EXEC, ET_DYN, EHDR_SIZE, PHDR_SIZE, PT_LOAD, PT_DYNAMIC, PF_R, SHT_PROGBITS, SHT_STRTAB, SHF_ALLOC}
use Rattle.elf_model.specs.declared.object.Kind.{Kind}
use Rattle.elf_model.specs.declared.object.Kind.TheVariants.{Exec, Dyn}
use Rattle.elf_model.specs.declared.object.Object.{Object}
use Rattle.elf_model.specs.declared.object.Segment.{Segment}
use Rattle.elf_model.specs.declared.table.ProgramHeader.{ProgramHeader}
use Rattle.elf_model.specs.declared.table.SectionHeader.{SectionHeader}
use Rattle.elf_write.specs.declared.header.FileHeader.{FileHeader}
use Rattle.elf_write.specs.Words.{header_row, program_row, section_row, table_bytes, zeros, aligned, offset_like}
use Rattle.elf_write.specs.Strings.{strings}
use Rattle.elf_write.specs.TableSegment.{layout_of, dynamic_size, tables_vaddr, with_tables}

-- ---- the bytes of segments, each from the next offset on that leaves the same rest by its alignment as its link address

abbrev pub offset_of : ℕ → Segment → ℕ
offset_of at s = offset_like s.vaddr s.align at

abbrev pub end_of : ℕ → Segment → ℕ
end_of at s = offset_of at s + length s.filled

-- where segments end, the first of which would begin at an offset
abbrev pub end_of_all : ℕ → List Segment → ℕ
end_of_all at [] = at
end_of_all at (s ∷ ss) = end_of_all (end_of at s) ss

abbrev pub contents : ℕ → List Segment → List ℕ
contents at [] = []
contents at (s ∷ ss) = zeros (offset_of at s - at) ++ (s.filled ++ contents (end_of at s) ss)

-- ---- program headers

-- that of a segment that would begin at an offset
abbrev pub load_header : ℕ → Segment → ProgramHeader
load_header at s = record {
  kind = PT_LOAD;
  offset = offset_of at s;
  vaddr = s.vaddr;
  filesz = length s.filled;
  memsz = s.memsz;
  flags = s.flags;
  align = s.align;
}

abbrev pub load_headers : ℕ → List Segment → List ProgramHeader
load_headers at [] = []
load_headers at (s ∷ ss) = load_header at s ∷ load_headers (end_of at s) ss

-- how many there are: the segments', that of the tables, and that of the dynamic section
abbrev pub header_count : Object → ℕ
header_count o = length o.segments + 2

abbrev pub headers_end : Object → ℕ
headers_end o = EHDR_SIZE + PHDR_SIZE * header_count o

-- where the tables begin in the file
abbrev pub tables_offset : Object → ℕ
tables_offset o = offset_like (tables_vaddr o) 16 (end_of_all (headers_end o) o.segments)

-- the offset in the file of what stands at a link address of the tables
abbrev pub table_offset : Object → ℕ → ℕ
table_offset o vaddr = tables_offset o + (vaddr - tables_vaddr o)

abbrev pub dynamic_header : Object → ProgramHeader
dynamic_header o =
    let at = (layout_of o).dynamic in
    record {
      kind = PT_DYNAMIC;
      offset = table_offset o at;
      vaddr = at;
      filesz = dynamic_size o;
      memsz = dynamic_size o;
      flags = PF_R;
      align = 4;
    }

abbrev pub program_headers : Object → List ProgramHeader
program_headers o = load_headers (headers_end o) (with_tables o).segments ++ dynamic_header o ∷ []

-- ---- the section headers of an object that has fixups

abbrev pub section_strings : List ℕ
section_strings = strings (Some (codes ".rofixup") ∷ Some (codes ".shstrtab") ∷ [])

-- where their names begin, behind all segments
abbrev pub names_offset : Object → ℕ
names_offset o = end_of_all (headers_end o) (with_tables o).segments

abbrev pub names_end : Object → ℕ
names_end o = names_offset o + length section_strings

abbrev pub sections_offset : Object → ℕ
sections_offset o = aligned 4 (names_end o)

abbrev pub no_header : SectionHeader
no_header = record { name = 0; kind = 0; flags = 0; addr = 0; offset = 0; size = 0; link = 0; info = 0; align = 0 }

-- that of the list of fixups, whose last word is the GOT
abbrev pub rofixup_header : Object → List ℕ → SectionHeader
rofixup_header o fixups =
    let at = (layout_of o).fixups in
    record {
      name = 1;
      kind = SHT_PROGBITS;
      flags = SHF_ALLOC;
      addr = at;
      offset = table_offset o at;
      size = 4 * (length fixups + 1);
      link = 0;
      info = 0;
      align = 4;
    }

-- that of the names, which stands at the second of them
abbrev pub names_header : Object → SectionHeader
names_header o = record {
  name = 10;
  kind = SHT_STRTAB;
  flags = 0;
  addr = 0;
  offset = names_offset o;
  size = length section_strings;
  link = 0;
  info = 0;
  align = 1;
}

abbrev pub section_headers : Object → List ℕ → List SectionHeader
section_headers o fixups = no_header ∷ rofixup_header o fixups ∷ names_header o ∷ []

-- the names, and behind them the headers
abbrev pub sections : Object → List ℕ → List ℕ
sections o fixups =
    section_strings
    ++ (zeros (sections_offset o - names_end o)
    ++ table_bytes (map section_row (section_headers o fixups)))

-- ---- the file

abbrev pub type_of : Kind → ℕ
type_of Exec = ET_EXEC
type_of Dyn = ET_DYN

abbrev pub file_header : Object → FileHeader
file_header o = record {
  kind = type_of o.kind;
  entry = o.entry;
  phoff = EHDR_SIZE;
  phnum = header_count o;
  shoff = if is_some o.fixups then sections_offset o else 0;
  shnum = if is_some o.fixups then 3 else 0;
  shstrndx = if is_some o.fixups then 2 else 0;
}

unfoldable pub object_file : Object → List ℕ
object_file o =
    word_bytes (header_row (file_header o))
    ++ (table_bytes (map program_row (program_headers o))
    ++ (contents (headers_end o) (with_tables o).segments
    ++ option_map_or (sections o) o.fixups []))
