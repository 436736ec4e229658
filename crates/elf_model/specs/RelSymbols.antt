-- The symbols of a relocatable file (gABI, "Symbol Table"; Thumb functions by ELF for the Arm Architecture).
use Rattle.std.specs.Prelude.{ℕ, ◌+◌, ◌-◌, ◌/◌, ◌%◌, Bool, not, ◌&&◌, ◌||◌, ◌==◌, true, nat_lt, nat_le, List, [], ◌∷◌, ◌++◌, map, filter, slice_get, slice_range, Option, is_none, if◌then◌else◌}
use Rattle.std.specs.Option.{option_map_or}
use Rattle.std.specs.List.{range_with_len}
use Rattle.elf_model.specs.declared.constants.TheConstants.{SYM_SIZE, SHT_SYMTAB, STB_LOCAL, STB_WEAK, STT_TLS, SHN_UNDEF, SHN_ABS, SHN_COMMON, MAX_ENTRIES}
use Rattle.elf_model.specs.declared.refusal.ElfKind.TheVariants.{Table, TooMany, NameRange, Tls, Thumb}
use Rattle.elf_model.specs.declared.table.SectionHeader.{SectionHeader}
use Rattle.elf_model.specs.declared.table.SymbolEntry.{SymbolEntry}
use Rattle.elf_model.specs.declared.object.Place.{Place}
use Rattle.elf_model.specs.declared.object.Place.TheVariants.{Undefined, Absolute, Common, Section, Dropped}
use Rattle.elf_model.specs.declared.object.Symbol.{Symbol}
use Rattle.elf_model.specs.Test.{ElfTest, refuses, of_some, each_below}
use Rattle.elf_model.specs.Header.{e_shnum, passes_end}
use Rattle.elf_model.specs.Sections.{section_offset, section_header}
use Rattle.elf_model.specs.Strings.{string_at, name_at}
use Rattle.elf_model.specs.Symbols.{symbol_entry_of, binding_of, type_of, is_defined_function, symbol_of, null_symbol}
use Rattle.elf_model.specs.RelSections.{is_kept_at, kept_number}

-- ---- the table

-- which sections are tables of symbols
unfoldable pub symbol_sections : List ℕ → List ℕ
symbol_sections bytes = filter (λ i. (section_header bytes i).kind == SHT_SYMTAB) (range_with_len 0 (e_shnum bytes))

-- the first of them is read
abbrev pub symbol_section : List ℕ → Option ℕ
symbol_section bytes = slice_get (symbol_sections bytes) 0

-- whether the section of the strings is there and lies in the file
unfoldable pub has_strings : List ℕ → SectionHeader → Bool
has_strings bytes h =
    nat_lt h.link (e_shnum bytes)
    && not (passes_end bytes (section_header bytes h.link).offset (section_header bytes h.link).size)

unfoldable pub symbol_section_tests : List ℕ → ℕ → List ElfTest
symbol_section_tests bytes i =
    let h = section_header bytes i in
    let at = section_offset bytes i in
    refuses Table at (passes_end bytes h.offset h.size || (not (has_strings bytes h) || not (h.size % SYM_SIZE == 0)))
    ∷ refuses TooMany at (nat_lt MAX_ENTRIES (h.size / SYM_SIZE))
    ∷ []

-- there is no second table
unfoldable pub symbol_table_tests : List ℕ → List ElfTest
symbol_table_tests bytes =
    of_some (symbol_section bytes) (symbol_section_tests bytes)
    ++ of_some (slice_get (symbol_sections bytes) 1) (λ i. refuses Table (section_offset bytes i) true ∷ [])

-- the number of symbols, 0 where there is no table of them
unfoldable pub symbol_count : List ℕ → ℕ
symbol_count bytes = option_map_or (λ i. (section_header bytes i).size / SYM_SIZE) (symbol_section bytes) 0

-- where they stand in the file
unfoldable pub symbols_offset : List ℕ → ℕ
symbols_offset bytes = option_map_or (λ i. (section_header bytes i).offset) (symbol_section bytes) 0

abbrev pub bytes_of : List ℕ → SectionHeader → List ℕ
bytes_of bytes h = slice_range bytes h.offset (h.offset + h.size)

-- the strings of their names
unfoldable pub strings : List ℕ → List ℕ
strings bytes = option_map_or (λ i. bytes_of bytes (section_header bytes (section_header bytes i).link)) (symbol_section bytes) []

-- ---- each of them

-- whether its name can be read, which only a local symbol may be without
unfoldable pub has_name : List ℕ → SymbolEntry → Bool
has_name names e =
    not (is_none (string_at names e.name)) && (binding_of e == STB_LOCAL || not (is_none (name_at names e.name)))

-- whether the index of its section is that of a section header, or has a meaning of its own
unfoldable pub has_place : List ℕ → SymbolEntry → Bool
has_place bytes e = nat_lt e.section (e_shnum bytes) || (e.section == SHN_ABS || e.section == SHN_COMMON)

unfoldable pub symbol_tests : List ℕ → List ℕ → SymbolEntry → List ElfTest
symbol_tests bytes names e =
    refuses NameRange e.offset (not (has_name names e))
    ∷ refuses Tls e.offset (type_of e == STT_TLS)
    ∷ refuses Table e.offset (not (nat_le (binding_of e) STB_WEAK && has_place bytes e))
    ∷ refuses Thumb e.offset (is_defined_function e && (not (e.section == SHN_COMMON) && e.value % 2 == 1))
    ∷ []

-- Each symbol but the first. Symbol 0 is the null symbol, whatever its bytes.
unfoldable pub all_symbol_tests : List ℕ → List ElfTest
all_symbol_tests bytes =
    each_below (symbol_count bytes - 1) (λ k. symbol_tests bytes (strings bytes) (symbol_entry_of bytes (symbols_offset bytes) (k + 1)))

-- ---- the symbols themselves

unfoldable pub place_of : List ℕ → ℕ → Place
place_of bytes section =
    if section == SHN_UNDEF then Undefined
    else if section == SHN_ABS then Absolute
    else if section == SHN_COMMON then Common
    else if is_kept_at bytes section then Section (kept_number bytes section)
    else Dropped

abbrev pub rel_symbol_of : List ℕ → SymbolEntry → Symbol
rel_symbol_of bytes e = record (symbol_of (strings bytes) e) { place = place_of bytes e.section }

unfoldable pub symbols : List ℕ → List Symbol
symbols bytes =
    if symbol_count bytes == 0 then []
    else null_symbol ∷ map (λ i. rel_symbol_of bytes (symbol_entry_of bytes (symbols_offset bytes) i)) (range_with_len 1 (symbol_count bytes - 1))
