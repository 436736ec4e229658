-- The definitions of a relocatable file, computed on a small one.
use Rattle.std.proofs.Common.{◌≡◌, ℕ, List, [], ◌∷◌, Some, None, refl}
use lib.Count.{ones}
use Rattle.std.specs.Prelude.{⊤, codes, map, set}
use Rattle.fd_base.specs.Words.{word_in, half_in}
use Rattle.elf_model.specs.declared.refusal.ElfKind.TheVariants.{Ident, Rela, Table, NameRange, SiteRange, Group}
use Rattle.elf_model.specs.declared.object.Place.TheVariants.{Undefined, Section, Dropped}
use Rattle.elf_model.specs.Test.{each_below}
use Rattle.elf_model.specs.Header.{size_tests, magic_tests, abi_tests, ident_tests, machine_tests, type_tests, file_tests}
use Rattle.elf_model.specs.Strings.{text_at, string_at, name_at}
use Rattle.elf_model.specs.Sections.{section_header, section_names}
use Rattle.elf_model.specs.Symbols.{symbol_entry, symbol_of}
use Rattle.elf_model.specs.Relocations.{rel_entry}
use Rattle.elf_model.specs.RelSections.{needed_table_tests, is_kept_at, kept_tests, section_tests, all_section_tests, section_bytes}
use Rattle.elf_model.specs.RelSymbols.{symbol_sections, has_strings, symbol_section_tests, symbol_table_tests, symbol_count, symbols_offset, strings, has_name, has_place, symbol_tests, all_symbol_tests, place_of, symbols}
use Rattle.elf_model.specs.RelEntries.{relocates, entry_tests, relocating_tests, all_relocating_tests, rels_at}
use Rattle.elf_model.specs.Relocatable.{relocatable_tests, relocatable_refusal_of, sections, relocatable_of}
use Rattle.elf_model.specs.Object.{refusal_of}
use Rattle.elf_model.proofs.Computing.{computing}

-- what these proofs unfold
unfoldable whole_file : ⊤
unfolding ones word_in half_in each_below size_tests magic_tests abi_tests ident_tests machine_tests type_tests file_tests text_at string_at name_at section_header section_names symbol_entry symbol_of rel_entry needed_table_tests is_kept_at kept_tests section_tests all_section_tests section_bytes symbol_sections has_strings symbol_section_tests symbol_table_tests symbol_count symbols_offset strings has_name has_place symbol_tests all_symbol_tests place_of symbols relocates entry_tests relocating_tests all_relocating_tests rels_at relocatable_tests sections relocatable_of
whole_file = tt

-- A file without an OS/ABI: `.text` of two words with the function f, and a branch to a g that is defined elsewhere.
whole : List ℕ
whole =
    127 ∷ 69 ∷ 76 ∷ 70 ∷ 1 ∷ 1 ∷ 1 ∷ 0 ∷ 0 ∷ 0 ∷ 0 ∷ 0 ∷ 0 ∷ 0 ∷ 0 ∷ 0 ∷ 1 ∷ 0 ∷ 40 ∷ 0 ∷ 1 ∷ 0 ∷ 0 ∷ 0 ∷ 0 ∷
    0 ∷ 0 ∷ 0 ∷ 0 ∷ 0 ∷ 0 ∷ 0 ∷ 168 ∷ 0 ∷ 0 ∷ 0 ∷ 0 ∷ 0 ∷ 0 ∷ 5 ∷ 52 ∷ 0 ∷ 0 ∷ 0 ∷ 0 ∷ 0 ∷ 40 ∷ 0 ∷ 6 ∷ 0 ∷ 5 ∷
    0 ∷ 0 ∷ 0 ∷ 224 ∷ 227 ∷ 254 ∷ 255 ∷ 255 ∷ 234 ∷ 4 ∷ 0 ∷ 0 ∷ 0 ∷ 29 ∷ 2 ∷ 0 ∷ 0 ∷ 0 ∷ 0 ∷ 0 ∷ 0 ∷ 0 ∷ 0 ∷
    0 ∷ 0 ∷ 0 ∷ 0 ∷ 0 ∷ 0 ∷ 0 ∷ 0 ∷ 0 ∷ 0 ∷ 1 ∷ 0 ∷ 0 ∷ 0 ∷ 0 ∷ 0 ∷ 0 ∷ 0 ∷ 4 ∷ 0 ∷ 0 ∷ 0 ∷ 18 ∷ 0 ∷ 1 ∷ 0 ∷
    3 ∷ 0 ∷ 0 ∷ 0 ∷ 0 ∷ 0 ∷ 0 ∷ 0 ∷ 0 ∷ 0 ∷ 0 ∷ 0 ∷ 16 ∷ 0 ∷ 0 ∷ 0 ∷ 0 ∷ 102 ∷ 0 ∷ 103 ∷ 0 ∷ 0 ∷ 0 ∷ 0 ∷ 0 ∷
    46 ∷ 116 ∷ 101 ∷ 120 ∷ 116 ∷ 0 ∷ 46 ∷ 115 ∷ 121 ∷ 109 ∷ 116 ∷ 97 ∷ 98 ∷ 0 ∷ 46 ∷ 115 ∷ 116 ∷ 114 ∷ 116 ∷
    97 ∷ 98 ∷ 0 ∷ 46 ∷ 115 ∷ 104 ∷ 115 ∷ 116 ∷ 114 ∷ 116 ∷ 97 ∷ 98 ∷ 0 ∷ 46 ∷ 114 ∷ 101 ∷ 108 ∷ 46 ∷ 116 ∷
    101 ∷ 120 ∷ 116 ∷ 0 ∷ 0 ∷ 0 ∷ 0 ∷ 0 ∷ 0 ∷ 0 ∷ 0 ∷ 0 ∷ 0 ∷ 0 ∷ 0 ∷ 0 ∷ 0 ∷ 0 ∷ 0 ∷ 0 ∷ 0 ∷ 0 ∷ 0 ∷ 0 ∷ 0 ∷
    0 ∷ 0 ∷ 0 ∷ 0 ∷ 0 ∷ 0 ∷ 0 ∷ 0 ∷ 0 ∷ 0 ∷ 0 ∷ 0 ∷ 0 ∷ 0 ∷ 0 ∷ 0 ∷ 0 ∷ 0 ∷ 0 ∷ 0 ∷ 1 ∷ 0 ∷ 0 ∷ 0 ∷ 1 ∷ 0 ∷ 0 ∷
    0 ∷ 6 ∷ 0 ∷ 0 ∷ 0 ∷ 0 ∷ 0 ∷ 0 ∷ 0 ∷ 52 ∷ 0 ∷ 0 ∷ 0 ∷ 8 ∷ 0 ∷ 0 ∷ 0 ∷ 0 ∷ 0 ∷ 0 ∷ 0 ∷ 0 ∷ 0 ∷ 0 ∷ 0 ∷ 4 ∷
    0 ∷ 0 ∷ 0 ∷ 0 ∷ 0 ∷ 0 ∷ 0 ∷ 33 ∷ 0 ∷ 0 ∷ 0 ∷ 9 ∷ 0 ∷ 0 ∷ 0 ∷ 0 ∷ 0 ∷ 0 ∷ 0 ∷ 0 ∷ 0 ∷ 0 ∷ 0 ∷ 60 ∷ 0 ∷ 0 ∷
    0 ∷ 8 ∷ 0 ∷ 0 ∷ 0 ∷ 3 ∷ 0 ∷ 0 ∷ 0 ∷ 1 ∷ 0 ∷ 0 ∷ 0 ∷ 4 ∷ 0 ∷ 0 ∷ 0 ∷ 8 ∷ 0 ∷ 0 ∷ 0 ∷ 7 ∷ 0 ∷ 0 ∷ 0 ∷ 2 ∷ 0 ∷
    0 ∷ 0 ∷ 0 ∷ 0 ∷ 0 ∷ 0 ∷ 0 ∷ 0 ∷ 0 ∷ 0 ∷ 68 ∷ 0 ∷ 0 ∷ 0 ∷ 48 ∷ 0 ∷ 0 ∷ 0 ∷ 4 ∷ 0 ∷ 0 ∷ 0 ∷ 1 ∷ 0 ∷ 0 ∷ 0 ∷
    4 ∷ 0 ∷ 0 ∷ 0 ∷ 16 ∷ 0 ∷ 0 ∷ 0 ∷ 15 ∷ 0 ∷ 0 ∷ 0 ∷ 3 ∷ 0 ∷ 0 ∷ 0 ∷ 0 ∷ 0 ∷ 0 ∷ 0 ∷ 0 ∷ 0 ∷ 0 ∷ 0 ∷ 116 ∷ 0 ∷
    0 ∷ 0 ∷ 8 ∷ 0 ∷ 0 ∷ 0 ∷ 0 ∷ 0 ∷ 0 ∷ 0 ∷ 0 ∷ 0 ∷ 0 ∷ 0 ∷ 1 ∷ 0 ∷ 0 ∷ 0 ∷ 0 ∷ 0 ∷ 0 ∷ 0 ∷ 23 ∷ 0 ∷ 0 ∷ 0 ∷
    3 ∷ 0 ∷ 0 ∷ 0 ∷ 0 ∷ 0 ∷ 0 ∷ 0 ∷ 0 ∷ 0 ∷ 0 ∷ 0 ∷ 124 ∷ 0 ∷ 0 ∷ 0 ∷ 44 ∷ 0 ∷ 0 ∷ 0 ∷ 0 ∷ 0 ∷ 0 ∷ 0 ∷ 0 ∷ 0 ∷
    0 ∷ 0 ∷ 1 ∷ 0 ∷ 0 ∷ 0 ∷ 0 ∷ 0 ∷ 0 ∷ 0 ∷ []

accepted : relocatable_refusal_of whole ≡ None
unfolding whole_file whole
accepted = refl

the_sections : (relocatable_of whole).sections ≡ record {
  name = Some (codes ".text");
  kind = 1;
  flags = 6;
  align = 4;
  size = 8;
  filled = 0 ∷ 0 ∷ 224 ∷ 227 ∷ 254 ∷ 255 ∷ 255 ∷ 234 ∷ [];
  rels = record { site = 4; kind = 29; symbol = 2 } ∷ [];
} ∷ []
unfolding whole_file whole
the_sections = refl

places : map (λ s. s.place) (relocatable_of whole).symbols ≡ Undefined ∷ Section 0 ∷ Undefined ∷ []
unfolding whole_file whole
places = refl

-- no object is one of these
no_object : refusal_of whole ≡ Some (record { kind = Ident; at = 7 })
unfolding computing whole
no_object = refl

-- ---- one byte changed

-- the text is a group of sections
group : relocatable_refusal_of (set whole 212 17) ≡ Some (record { kind = Group; at = 208 })
unfolding whole_file whole
group = refl

-- g is without a name
nameless : relocatable_refusal_of (set whole 100 0) ≡ Some (record { kind = NameRange; at = 100 })
unfolding whole_file whole
nameless = refl

-- the text is a section of zeros, and the branch isn't in it
in_zeros : relocatable_refusal_of (set whole 212 8) ≡ Some (record { kind = SiteRange; at = 60 })
unfolding whole_file whole
in_zeros = refl

-- the branch's last byte is behind the text
past_the_text : relocatable_refusal_of (set whole 60 5) ≡ Some (record { kind = SiteRange; at = 60 })
unfolding whole_file whole
past_the_text = refl

-- the relocations have addends of their own
with_addends : relocatable_refusal_of (set whole 252 4) ≡ Some (record { kind = Rela; at = 248 })
unfolding whole_file whole
with_addends = refl

-- the branch is to a symbol that there isn't
no_symbol : relocatable_refusal_of (set whole 65 3) ≡ Some (record { kind = Table; at = 60 })
unfolding whole_file whole
no_symbol = refl

-- the strings of sections' names are a second table of symbols
two_tables : relocatable_refusal_of (set whole 372 2) ≡ Some (record { kind = Table; at = 368 })
unfolding whole_file whole
two_tables = refl

-- the text has no memory at run time, so f has no section and the relocations aren't looked at
dropped : map (λ s. s.place) (relocatable_of (set whole 216 4)).symbols ≡ Undefined ∷ Dropped ∷ Undefined ∷ []
unfolding whole_file whole
dropped = refl
