-- What it means that bytes are a relocatable file, and why others are none.
use Rattle.std.specs.Prelude.{◌≡◌, ℕ, List, [], ◌∷◌, ◌++◌, map, filter, Option, Some, None}
use Rattle.std.specs.List.{range_with_len}
use Rattle.elf_model.specs.declared.constants.TheConstants.{ELFOSABI_NONE, ELFOSABI_ARM_FDPIC, ET_REL}
use Rattle.elf_model.specs.declared.refusal.ElfRefusal.{ElfRefusal}
use Rattle.elf_model.specs.declared.relocatable.RelObject.{RelObject}
use Rattle.elf_model.specs.declared.relocatable.RelSection.{RelSection}
use Rattle.elf_model.specs.Test.{ElfTest, first_failing}
use Rattle.elf_model.specs.Header.{e_shnum, file_tests}
use Rattle.elf_model.specs.Sections.{section_header, section_names}
use Rattle.elf_model.specs.Strings.{name_at}
use Rattle.elf_model.specs.RelSections.{is_kept, needed_table_tests, all_section_tests, section_bytes}
use Rattle.elf_model.specs.RelSymbols.{symbol_table_tests, all_symbol_tests, symbols}
use Rattle.elf_model.specs.RelEntries.{all_relocating_tests, rels_at}

-- ---- the tests in their order

abbrev pub relocatable_abis : List ℕ
relocatable_abis = ELFOSABI_NONE ∷ ELFOSABI_ARM_FDPIC ∷ []

abbrev pub relocatable_types : List ℕ
relocatable_types = ET_REL ∷ []

unfoldable pub relocatable_tests : List ℕ → List ElfTest
relocatable_tests bytes =
    file_tests relocatable_abis relocatable_types bytes
    ++ (needed_table_tests bytes
    ++ (all_section_tests bytes
    ++ (symbol_table_tests bytes
    ++ (all_symbol_tests bytes
    ++ all_relocating_tests bytes))))

-- The refusal: the first failing test. None where the bytes are a relocatable file.
abbrev pub relocatable_refusal_of : List ℕ → Option ElfRefusal
relocatable_refusal_of bytes = first_failing (relocatable_tests bytes)

-- ---- the file's values

-- the section of an index
abbrev pub section_of : List ℕ → ℕ → RelSection
section_of bytes i =
    let h = section_header bytes i in
    record {
      name = name_at (section_names bytes) h.name;
      kind = h.kind;
      flags = h.flags;
      align = h.align;
      size = h.size;
      filled = section_bytes bytes h;
      rels = rels_at bytes i;
    }

-- the sections that are kept
unfoldable pub sections : List ℕ → List RelSection
sections bytes = map (section_of bytes) (filter (λ i. is_kept (section_header bytes i)) (range_with_len 0 (e_shnum bytes)))

unfoldable pub relocatable_of : List ℕ → RelObject
relocatable_of bytes = record { sections = sections bytes; symbols = symbols bytes }

-- Each test holds, and each field is the value that stands at its place.
pub record IsRelocatable (bytes : List ℕ) (r : RelObject) : Type 0 where
  pub passes : relocatable_refusal_of bytes ≡ None
  pub fields : r ≡ relocatable_of bytes

-- two relocatable files of the same bytes are one, and no test fails of the bytes of one
pub record OneRelocatable : Type 0 where
  pub same : (bytes : List ℕ) (a b : RelObject) → IsRelocatable bytes a → IsRelocatable bytes b → a ≡ b
  pub exclusive : (bytes : List ℕ) (r : RelObject) (refusal : ElfRefusal) → IsRelocatable bytes r → relocatable_refusal_of bytes ≡ Some refusal → ⊥
