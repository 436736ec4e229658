-- Written files are words: but for strings and the bytes of sections and segments each part is a table of rows of words,
-- little-endian (gABI, "Data Representation").
use Rattle.std.specs.Prelude.{ℕ, ◌+◌, ◌*◌, ◌-◌, ◌%◌, ◌^◌, ◌==◌, List, [], ◌∷◌, replicate, if◌then◌else◌}
use Rattle.std.specs.List.{flat_map}
use Rattle.fd_base.specs.Words.{word_bytes}
use Rattle.elf_model.specs.declared.constants.TheConstants.{SHT_SYMTAB, SHT_REL, SYM_SIZE, REL_SIZE}
use Rattle.elf_model.specs.declared.object.Rel.{Rel}
use Rattle.elf_model.specs.declared.object.Symbol.{Symbol}
use Rattle.elf_model.specs.declared.table.ProgramHeader.{ProgramHeader}
use Rattle.elf_model.specs.declared.table.SectionHeader.{SectionHeader}
use Rattle.elf_write.specs.declared.header.FileHeader.{FileHeader}

-- two halfwords in a word, the lower first
abbrev pub halves : ℕ → ℕ → ℕ
halves low high = low + 2 ^ 16 * high

-- the bytes of a table
abbrev pub table_bytes : List (List ℕ) → List ℕ
table_bytes rows = flat_map word_bytes rows

-- ---- rows (gABI: "ELF Header", "Program Header", "Sections", "Symbol Table", "Relocation")

-- The ELF header of an Arm FDPIC file. The first four words are the identification.
abbrev pub header_row : FileHeader → List ℕ
header_row h =
    0x464c_457f ∷ 0x4101_0101 ∷ 0 ∷ 0
    ∷ halves h.kind 40 ∷ 1 ∷ h.entry ∷ h.phoff ∷ h.shoff ∷ 0x0500_0000
    ∷ halves 52 32 ∷ halves h.phnum 40 ∷ halves h.shnum h.shstrndx ∷ []

-- the physical address is the link address
abbrev pub program_row : ProgramHeader → List ℕ
program_row h = h.kind ∷ h.offset ∷ h.vaddr ∷ h.vaddr ∷ h.filesz ∷ h.memsz ∷ h.flags ∷ h.align ∷ []

-- the size of an entry, where the section is a table
abbrev pub entry_size : ℕ → ℕ
entry_size kind = if kind == SHT_SYMTAB then SYM_SIZE else if kind == SHT_REL then REL_SIZE else 0

abbrev pub section_row : SectionHeader → List ℕ
section_row h = h.name ∷ h.kind ∷ h.flags ∷ h.addr ∷ h.offset ∷ h.size ∷ h.link ∷ h.info ∷ h.align ∷ entry_size h.kind ∷ []

-- a symbol whose name stands at an offset of the strings, in the section of an index
abbrev pub symbol_row : ℕ → ℕ → Symbol → List ℕ
symbol_row name index s = name ∷ s.value ∷ s.size ∷ (16 * s.binding + s.kind + 256 * s.visibility + 2 ^ 16 * index) ∷ []

abbrev pub rel_row : Rel → List ℕ
rel_row r = r.site ∷ (r.kind + 256 * r.symbol) ∷ []

-- ---- places

abbrev pub zeros : ℕ → List ℕ
zeros n = replicate n 0

-- an alignment of 0 counts as 1
abbrev pub step_of : ℕ → ℕ
step_of align = if align == 0 then 1 else align

-- the first offset from at on that leaves the same rest as the place does
abbrev pub offset_like : ℕ → ℕ → ℕ → ℕ
offset_like place align at = at + (place % align + align - at % align) % align

-- the first multiple from at on
abbrev pub aligned : ℕ → ℕ → ℕ
aligned align at = offset_like 0 (step_of align) at
