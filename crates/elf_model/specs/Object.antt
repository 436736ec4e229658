-- What it means that bytes are an executable or a shared object, and why others are none.
use Rattle.std.specs.Prelude.{◌≡◌, ℕ, List, ◌++◌, Option, Some, None}
use Rattle.elf_model.specs.declared.constants.TheConstants.{E_PHOFF}
use Rattle.elf_model.specs.declared.refusal.ElfRefusal.{ElfRefusal}
use Rattle.elf_model.specs.declared.object.Object.{Object}
use Rattle.elf_model.specs.Test.{ElfTest, first_failing}
use Rattle.elf_model.specs.Header.{header_tests, kind, e_entry}
use Rattle.elf_model.specs.Segments.{loads, segments, segment_tests, some_segment_tests}
use Rattle.elf_model.specs.Sections.{rofixup_tests}
use Rattle.elf_model.specs.Dynamic.{dynamic_range_tests, all_entry_tests, dynamic_offset_or, string_tests, needed_tests, needed_of, soname_tests, soname_of}
use Rattle.elf_model.specs.Symbols.{count_tests, all_symbol_tests}
use Rattle.elf_model.specs.Relocations.{both_table_tests, all_rel_tests, rels_of}
use Rattle.elf_model.specs.Fields as field

-- ---- the tests in their order

-- the program headers, and that some segment is left
unfoldable pub all_segment_tests : List ℕ → List ElfTest
all_segment_tests bytes = segment_tests bytes ++ some_segment_tests bytes

-- the dynamic section and its entries, the list of fixups, and the GOT
unfoldable pub dynamic_tests : List ℕ → List ElfTest
dynamic_tests bytes =
    dynamic_range_tests bytes (loads bytes)
    ++ (all_entry_tests (field.entries bytes)
    ++ (rofixup_tests bytes
    ++ field.got_tests bytes))

-- the strings, the symbols, and the names of objects
unfoldable pub name_tests : List ℕ → List ElfTest
name_tests bytes =
    string_tests bytes (loads bytes) (field.entries bytes)
    ++ (count_tests bytes (loads bytes) (field.entries bytes) (dynamic_offset_or bytes E_PHOFF)
    ++ (all_symbol_tests bytes (loads bytes) (field.strings bytes) (field.symbols_offset bytes) (field.symbol_count bytes)
    ++ (needed_tests (field.strings bytes) (field.entries bytes)
    ++ soname_tests (field.strings bytes) (field.entries bytes))))

-- the tables of relocations, their entries, and the fixups
unfoldable pub relocation_tests : List ℕ → List ElfTest
relocation_tests bytes =
    both_table_tests (loads bytes) (field.entries bytes)
    ++ (all_rel_tests (loads bytes) (field.symbol_count bytes) (field.got_or_zero bytes) (field.all_rel_entries bytes)
    ++ field.all_fixup_tests bytes)

unfoldable pub tests : List ℕ → List ElfTest
tests bytes =
    header_tests bytes
    ++ (all_segment_tests bytes
    ++ (dynamic_tests bytes
    ++ (name_tests bytes
    ++ relocation_tests bytes)))

-- The refusal: the first failing test. None where the bytes are an object.
abbrev pub refusal_of : List ℕ → Option ElfRefusal
refusal_of bytes = first_failing (tests bytes)

-- ---- the object

-- the values that stand at the places of the fields
unfoldable pub object_of : List ℕ → Object
object_of bytes = record {
  kind = kind bytes;
  entry = e_entry bytes;
  segments = segments bytes;
  got = field.got_or_zero bytes;
  needed = needed_of (field.strings bytes) (field.entries bytes);
  soname = soname_of (field.strings bytes) (field.entries bytes);
  symbols = field.symbols bytes;
  rels = rels_of (field.rel_entries bytes);
  jmprels = rels_of (field.jmprel_entries bytes);
  fixups = field.fixups bytes;
  symbolic = field.is_symbolic (field.entries bytes);
  now = field.is_now (field.entries bytes);
  inits = field.inits_of (field.entries bytes);
}

-- Each test holds, and each field is the value that stands at its place.
pub record IsObject (bytes : List ℕ) (o : Object) : Type 0 where
  pub passes : refusal_of bytes ≡ None
  pub fields : o ≡ object_of bytes

-- two objects of the same bytes are one, and no test fails of the bytes of an object
pub record OneObject : Type 0 where
  pub same : (bytes : List ℕ) (a b : Object) → IsObject bytes a → IsObject bytes b → a ≡ b
  pub exclusive : (bytes : List ℕ) (o : Object) (r : ElfRefusal) → IsObject bytes o → refusal_of bytes ≡ Some r → ⊥
