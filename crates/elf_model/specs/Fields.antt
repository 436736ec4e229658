-- What stands in a file at the places of an object's fields, as functions of its bytes.
use Rattle.std.specs.Prelude.{ℕ, Bool, false, not, ◌||◌, nat_lt, List, [], ◌∷◌, Option, Some, None, option_map, option_and_then, is_some, unwrap_or, if◌then◌else◌}
use Rattle.std.specs.Option.{option_map_or, option_or}
use Rattle.elf_model.specs.declared.constants.TheConstants.{E_PHOFF, DT_PLTGOT, DT_INIT, DT_FINI, DT_SYMBOLIC, DT_BIND_NOW, DT_INIT_ARRAY, DT_INIT_ARRAYSZ, DT_FINI_ARRAY, DT_FINI_ARRAYSZ, DT_FLAGS, DF_SYMBOLIC, DF_BIND_NOW}
use Rattle.elf_model.specs.declared.refusal.ElfKind.TheVariants.{NoGot}
use Rattle.elf_model.specs.declared.table.ProgramHeader.{ProgramHeader}
use Rattle.elf_model.specs.declared.table.DynEntry.{DynEntry}
use Rattle.elf_model.specs.declared.table.RelEntry.{RelEntry}
use Rattle.elf_model.specs.declared.object.Symbol.{Symbol}
use Rattle.elf_model.specs.declared.object.Extent.{Extent}
use Rattle.elf_model.specs.declared.object.Inits.{Inits}
use Rattle.elf_model.specs.Test.{ElfTest, refuses, of_some}
use Rattle.elf_model.specs.Segments.{loads, has_flag}
use Rattle.elf_model.specs.Sections.{rofixup, rofixup_offset, listed_got, fixups_of}
use Rattle.elf_model.specs.Dynamic.{dynamic_entries, dynamic_offset_or, first_of, value_of, strings_of}
use Rattle.elf_model.specs.Symbols as sym
use Rattle.elf_model.specs.Relocations as rel

-- the entries of the dynamic section
unfoldable pub entries : List ℕ → List DynEntry
entries bytes = dynamic_entries bytes (loads bytes)

-- ---- the GOT (Arm FDPIC ABI: the value of DT_PLTGOT, or the last word of .rofixup)

unfoldable pub got : List ℕ → Option ℕ
got bytes = option_or (value_of DT_PLTGOT (entries bytes)) (option_map (listed_got bytes) (rofixup bytes))

-- at a multiple of 4, its header in the memory of one writable segment
unfoldable pub is_got_place : List ProgramHeader → ℕ → Bool
is_got_place loads addr = rel.is_in_place loads (rel.got_header addr)

-- it is reported at the header of the dynamic section, and where there is none at the field e_phoff
unfoldable pub got_tests : List ℕ → List ElfTest
got_tests bytes =
    refuses NoGot (dynamic_offset_or bytes E_PHOFF) (not (option_map_or (is_got_place (loads bytes)) (got bytes) false))
    ∷ []

abbrev pub got_or_zero : List ℕ → ℕ
got_or_zero bytes = unwrap_or (got bytes) 0

-- ---- strings and symbols

unfoldable pub strings : List ℕ → List ℕ
strings bytes = strings_of bytes (loads bytes) (entries bytes)

unfoldable pub symbol_count : List ℕ → ℕ
symbol_count bytes = sym.symbol_count bytes (loads bytes) (entries bytes)

unfoldable pub symbols_offset : List ℕ → ℕ
symbols_offset bytes = sym.symbols_offset (loads bytes) (entries bytes) (symbol_count bytes)

unfoldable pub symbols : List ℕ → List Symbol
symbols bytes = sym.symbols_of bytes (strings bytes) (symbols_offset bytes) (symbol_count bytes)

-- ---- relocations and fixups

unfoldable pub rel_entries : List ℕ → List RelEntry
rel_entries bytes = rel.rel_entries bytes (loads bytes) (entries bytes)

unfoldable pub jmprel_entries : List ℕ → List RelEntry
jmprel_entries bytes = rel.jmprel_entries bytes (loads bytes) (entries bytes)

unfoldable pub all_rel_entries : List ℕ → List RelEntry
all_rel_entries bytes = rel.all_rel_entries bytes (loads bytes) (entries bytes)

-- None where there is no list. A list that names the GOT alone is one of no fixups.
unfoldable pub fixups : List ℕ → Option (List ℕ)
fixups bytes = option_map (fixups_of bytes) (rofixup bytes)

unfoldable pub all_fixup_tests : List ℕ → List ElfTest
all_fixup_tests bytes = of_some (rofixup bytes) (λ i.
    rel.fixup_tests (loads bytes) (got_or_zero bytes) (all_rel_entries bytes) (rofixup_offset bytes i 0) (fixups_of bytes i))

-- ---- flags

abbrev pub has_tag : ℕ → List DynEntry → Bool
has_tag tag entries = is_some (first_of tag entries)

-- whether DT_FLAGS is there with this flag
abbrev pub has_dynamic_flag : ℕ → List DynEntry → Bool
has_dynamic_flag flag entries = option_map_or (λ flags. has_flag flags flag) (value_of DT_FLAGS entries) false

unfoldable pub is_symbolic : List DynEntry → Bool
is_symbolic entries = has_tag DT_SYMBOLIC entries || has_dynamic_flag DF_SYMBOLIC entries

unfoldable pub is_now : List DynEntry → Bool
is_now entries = has_tag DT_BIND_NOW entries || has_dynamic_flag DF_BIND_NOW entries

-- ---- what is to be called at the start and the end

-- an array, where its address and its size are there and the size isn't 0
unfoldable pub extent_of : List DynEntry → ℕ → ℕ → Option Extent
extent_of entries addr_tag size_tag = option_and_then (λ addr.
    option_and_then (λ size. if nat_lt 0 size then Some (record { addr = addr; size = size }) else None) (value_of size_tag entries))
    (value_of addr_tag entries)

unfoldable pub inits_of : List DynEntry → Inits
inits_of entries = record {
  init = value_of DT_INIT entries;
  fini = value_of DT_FINI entries;
  init_array = extent_of entries DT_INIT_ARRAY DT_INIT_ARRAYSZ;
  fini_array = extent_of entries DT_FINI_ARRAY DT_FINI_ARRAYSZ;
}
