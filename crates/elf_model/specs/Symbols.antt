-- The symbols for dynamic linking (gABI, "Symbol Table" and "Hash Table"; Thumb functions by ELF for the Arm
-- Architecture).
use Rattle.std.specs.Prelude.{ℕ, ◌+◌, ◌*◌, ◌-◌, ◌/◌, ◌%◌, Bool, not, ◌&&◌, ◌==◌, nat_lt, List, [], ◌∷◌, ◌++◌, map, slice_index, Option, None, option_map, is_none, unwrap_or, if◌then◌else◌}
use Rattle.std.specs.Option.{option_map_or}
use Rattle.std.specs.List.{range_with_len}
use Rattle.fd_base.specs.Words.{word_in, half_in}
use Rattle.elf_model.specs.declared.constants.TheConstants.{ST_NAME, ST_VALUE, ST_SIZE, ST_INFO, ST_OTHER, ST_SHNDX, HASH_NCHAIN, SYM_SIZE, DT_HASH, DT_SYMTAB, STT_NOTYPE, STT_FUNC, STT_TLS, STB_LOCAL, STV_DEFAULT, SHN_UNDEF, SHN_ABS, SHN_COMMON, MAX_ENTRIES}
use Rattle.elf_model.specs.declared.refusal.ElfKind.TheVariants.{Table, NoCount, TooMany, NameRange, Tls, Thumb, FunctionPlace}
use Rattle.elf_model.specs.declared.table.ProgramHeader.{ProgramHeader}
use Rattle.elf_model.specs.declared.table.DynEntry.{DynEntry}
use Rattle.elf_model.specs.declared.table.SymbolEntry.{SymbolEntry}
use Rattle.elf_model.specs.declared.object.Place.{Place}
use Rattle.elf_model.specs.declared.object.Place.TheVariants.{Undefined, Absolute, Here}
use Rattle.elf_model.specs.declared.object.Symbol.{Symbol}
use Rattle.elf_model.specs.Test.{ElfTest, refuses, only_where, of_some, each_below}
use Rattle.elf_model.specs.Segments.{held_at, is_executable_at}
use Rattle.elf_model.specs.Strings.{string_at, name_at}
use Rattle.elf_model.specs.Sections.{section_symbol_count}
use Rattle.elf_model.specs.Dynamic.{first_of}

-- ---- how many there are

-- The number that the hash table gives: its second word, of its chains. None where its first two words aren't held.
unfoldable pub hash_symbol_count : List ℕ → List ProgramHeader → DynEntry → Option ℕ
hash_symbol_count bytes loads hash = option_map (λ at. word_in bytes (at + HASH_NCHAIN)) (held_at loads hash.value 8)

-- the number of symbols at this link address: by the hash table, or else by the section that has them
unfoldable pub count_of : List ℕ → List ProgramHeader → List DynEntry → ℕ → Option ℕ
count_of bytes loads entries addr =
    option_map_or (hash_symbol_count bytes loads) (first_of DT_HASH entries) (section_symbol_count bytes addr)

-- a hash table is held as far as it is read
unfoldable pub hash_tests : List ℕ → List ProgramHeader → List DynEntry → List ElfTest
hash_tests bytes loads entries = of_some (first_of DT_HASH entries) (λ hash.
    refuses Table hash.offset (is_none (held_at loads hash.value 8))
    ∷ [])

-- the tests of the table of symbols, where the dynamic section's header stands at an offset
unfoldable pub symbol_table_tests : List ℕ → List ProgramHeader → List DynEntry → ℕ → DynEntry → List ElfTest
symbol_table_tests bytes loads entries dynamic table =
    let count = count_of bytes loads entries table.value in
    hash_tests bytes loads entries
    ++ (refuses NoCount dynamic (is_none count)
    ∷ refuses TooMany table.offset (nat_lt MAX_ENTRIES (unwrap_or count 0))
    ∷ refuses Table table.offset (is_none (held_at loads table.value (SYM_SIZE * unwrap_or count 0)))
    ∷ [])

unfoldable pub count_tests : List ℕ → List ProgramHeader → List DynEntry → ℕ → List ElfTest
count_tests bytes loads entries dynamic = of_some (first_of DT_SYMTAB entries) (symbol_table_tests bytes loads entries dynamic)

-- the number of symbols, 0 where there is no table of them
unfoldable pub symbol_count : List ℕ → List ProgramHeader → List DynEntry → ℕ
symbol_count bytes loads entries =
    option_map_or (λ table. unwrap_or (count_of bytes loads entries table.value) 0) (first_of DT_SYMTAB entries) 0

-- where they stand in the file
unfoldable pub symbols_offset : List ProgramHeader → List DynEntry → ℕ → ℕ
symbols_offset loads entries count =
    option_map_or (λ table. unwrap_or (held_at loads table.value (SYM_SIZE * count)) 0) (first_of DT_SYMTAB entries) 0

-- ---- each of them

-- the symbol at an offset of the file
unfoldable pub symbol_entry : List ℕ → ℕ → SymbolEntry
symbol_entry bytes offset = record {
  offset = offset;
  name = word_in bytes (offset + ST_NAME);
  value = word_in bytes (offset + ST_VALUE);
  size = word_in bytes (offset + ST_SIZE);
  info = slice_index bytes (offset + ST_INFO);
  other = slice_index bytes (offset + ST_OTHER);
  section = half_in bytes (offset + ST_SHNDX);
}

abbrev pub binding_of : SymbolEntry → ℕ
binding_of e = e.info / 16

abbrev pub type_of : SymbolEntry → ℕ
type_of e = e.info % 16

abbrev pub visibility_of : SymbolEntry → ℕ
visibility_of e = e.other % 4

-- a function that this object defines
abbrev pub is_defined_function : SymbolEntry → Bool
is_defined_function e = type_of e == STT_FUNC && not (e.section == SHN_UNDEF)

-- whether a function stands at a multiple of 4 in the memory of an executable segment
unfoldable pub has_function_place : List ProgramHeader → SymbolEntry → Bool
has_function_place loads e = not (e.section == SHN_ABS) && (e.value % 4 == 0 && is_executable_at loads e.value)

unfoldable pub symbol_tests : List ProgramHeader → List ℕ → SymbolEntry → List ElfTest
symbol_tests loads strings e =
    refuses NameRange e.offset (is_none (string_at strings e.name))
    ∷ refuses Tls e.offset (type_of e == STT_TLS)
    ∷ refuses Table e.offset (e.section == SHN_COMMON)
    ∷ only_where (is_defined_function e) (
    refuses Thumb e.offset (e.value % 2 == 1)
    ∷ refuses FunctionPlace e.offset (not (has_function_place loads e))
    ∷ [])

-- the entry of symbol i, where the first of them stands at an offset
abbrev pub symbol_entry_of : List ℕ → ℕ → ℕ → SymbolEntry
symbol_entry_of bytes first i = symbol_entry bytes (first + SYM_SIZE * i)

-- Each symbol of count but the first. Symbol 0 is the null symbol, whatever its bytes.
unfoldable pub all_symbol_tests : List ℕ → List ProgramHeader → List ℕ → ℕ → ℕ → List ElfTest
all_symbol_tests bytes loads strings first count =
    each_below (count - 1) (λ k. symbol_tests loads strings (symbol_entry_of bytes first (k + 1)))

-- ---- the symbols themselves

abbrev pub place_of : ℕ → Place
place_of section = if section == SHN_UNDEF then Undefined else if section == SHN_ABS then Absolute else Here

unfoldable pub symbol_of : List ℕ → SymbolEntry → Symbol
symbol_of strings e = record {
  name = name_at strings e.name;
  value = e.value;
  size = e.size;
  binding = binding_of e;
  kind = type_of e;
  visibility = visibility_of e;
  place = place_of e.section;
}

abbrev pub null_symbol : Symbol
null_symbol = record {
  name = None;
  value = 0;
  size = 0;
  binding = STB_LOCAL;
  kind = STT_NOTYPE;
  visibility = STV_DEFAULT;
  place = Undefined;
}

unfoldable pub symbols_of : List ℕ → List ℕ → ℕ → ℕ → List Symbol
symbols_of bytes strings first count =
    if count == 0 then []
    else null_symbol ∷ map (λ i. symbol_of strings (symbol_entry_of bytes first i)) (range_with_len 1 (count - 1))
