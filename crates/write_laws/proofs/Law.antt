-- What is written of a relocatable file is read back.
use Rattle.std.proofs.Common.{◌≡◌, ℕ, ◌+◌, ◌<◌, ◌≤◌, suc, true, false, cond, [], ◌∷◌, ◌++◌, length, get_or, map, All, refl, sym, ap, ◌∙◌, arith, None, append-nil, length-append}
use Rattle.std.specs.Prelude.{filter}
use Rattle.std.specs.List.{range_with_len}
use Rattle.std.proofs.lemmas.List.Elements.{All-nil, All-cons, All-append, filter-append}
use Rattle.elf_model.specs.declared.constants.TheConstants.{EHDR_SIZE}
use Rattle.elf_model.specs.declared.relocatable.RelObject.{RelObject}
use Rattle.elf_model.specs.declared.relocatable.RelSection.{RelSection}
use Rattle.elf_model.specs.declared.table.SectionHeader.{SectionHeader}
use Rattle.elf_model.specs.Test.{first_failing}
use Rattle.elf_model.specs.Header.{e_shnum, file_tests}
use Rattle.elf_model.specs.Sections.{section_header, section_names}
use Rattle.elf_model.specs.Strings.{name_at}
use Rattle.elf_model.specs.RelSections.{is_kept, needed_table_tests, all_section_tests, section_bytes}
use Rattle.elf_model.specs.RelSymbols.{symbol_table_tests, all_symbol_tests}
use Rattle.elf_model.specs.RelEntries.{all_relocating_tests, rels_at}
use Rattle.elf_model.specs.Relocatable.{IsRelocatable, relocatable_abis, relocatable_types, relocatable_tests, relocatable_of, section_of, sections}
use Rattle.elf_model.proofs.Passing.{both}
use Rattle.elf_write.specs.declared.limits.TheConstants.{MAX_FILE_BYTES}
use Rattle.elf_write.specs.RelFile.{file_header, null_header, layout_of, rel_file, section_strings}
use Rattle.elf_write.specs.WritableRel.{IsWritableRel}
use Rattle.write_laws.specs.ReadBack.{FitsFields, WrittenIsRead}
use Rattle.write_laws.proofs.Listing.{lists_map, lists_at, lists_from, lists_behind, all_pass, none_passes, range-append}
use Rattle.write_laws.proofs.Headers.{file_passes}
use Rattle.write_laws.proofs.Kept.{header_in}
use Rattle.write_laws.proofs.Listed.{part, names_first, names_fewer, kept_of, tables_of, symbols_of, strings_of, names_header, shnum_is, listed, length-kept, kept_listed, names_read, sections_stand}
use Rattle.write_laws.proofs.SectionTests.{table_passes, sections_pass, kept_hold, tables_hold}
use Rattle.write_laws.proofs.SymbolTable as table
use Rattle.write_laws.proofs.SymbolTable.{symbols_pass, symbols_read}
use Rattle.write_laws.proofs.EntryTests.{entries_pass, rels_are}

module _ (r : RelObject) (w : IsWritableRel r) (f : FitsFields r) (short : length (rel_file r) ≤ MAX_FILE_BYTES) where
  tests_hold : first_failing (relocatable_tests (rel_file r)) ≡ None
  unfolding relocatable_tests
  tests_hold =
      let bytes = rel_file r in
      let entries = all_relocating_tests bytes in
      let symbols = all_symbol_tests bytes ++ entries in
      let tables = symbol_table_tests bytes ++ symbols in
      let sections = all_section_tests bytes ++ tables in
      both (file_tests relocatable_abis relocatable_types bytes) (needed_table_tests bytes ++ sections) (file_passes bytes (file_header (layout_of r)) (part r w f short).header relocatable_abis relocatable_types refl (omega arith) refl)
      (both (needed_table_tests bytes) sections (table_passes r w f short)
      (both (all_section_tests bytes) tables (sections_pass r w f short)
      (both (symbol_table_tests bytes) symbols (table.table_passes r w f short)
      (both (all_symbol_tests bytes) entries (symbols_pass r w f short) (entries_pass r w f short)))))

  -- ---- the sections

  -- the kept sections stand behind the null section
  kept_indices : filter (λ i. is_kept (section_header (rel_file r) i)) (range_with_len 0 (e_shnum (rel_file r))) ≡ range_with_len 1 (length r.sections)
  kept_indices =
      let bytes = rel_file r in
      let header = section_header bytes in
      let three = symbols_of r ∷ strings_of r ∷ names_header r ∷ [] in
      let rest = tables_of r ++ three in
      let test = λ (i : ℕ). is_kept (section_header bytes i) in
      let none : All (λ h. is_kept h ≡ false) rest = All-append (λ h. is_kept h ≡ false) (tables_of r) three (tables_hold r w f short (λ h. is_kept h ≡ false) (λ s at i t. refl))
      (All-cons (λ h. is_kept h ≡ false) (symbols_of r) (strings_of r ∷ names_header r ∷ []) refl (All-cons (λ h. is_kept h ≡ false) (strings_of r) (names_header r ∷ []) refl (All-cons (λ h. is_kept h ≡ false) (names_header r) [] refl (All-nil (λ h. is_kept h ≡ false))))) in
      let count : e_shnum bytes ≡ suc (length (kept_of r) + length rest) = shnum_is r w f short ∙ ap suc (length-append (kept_of r) rest) in
      let split : range_with_len 0 (e_shnum bytes) ≡ 0 ∷ (range_with_len 1 (length (kept_of r)) ++ range_with_len (1 + length (kept_of r)) (length rest))
      = ap (range_with_len 0) count ∙ ap (λ ns. 0 ∷ ns) (range-append 1 (length (kept_of r)) (length rest)) in
      let behind_null = range_with_len 1 (length (kept_of r)) ++ range_with_len (1 + length (kept_of r)) (length rest) in
      let kept = all_pass is_kept header 1 (kept_of r) (kept_listed r w f short) (kept_hold r w f short (λ h. is_kept h ≡ true) (λ s h is. is.kept)) in
      let others = none_passes is_kept header (1 + length (kept_of r)) rest (lists_behind header 1 (kept_of r) rest (listed r w f short).1) none in
      ap (filter test) split
      ∙ ap (λ h. cond (is_kept h) (0 ∷ filter test behind_null) (filter test behind_null)) (listed r w f short).0
      ∙ filter-append test (range_with_len 1 (length (kept_of r))) (range_with_len (1 + length (kept_of r)) (length rest))
      ∙ ap (λ ns. ns ++ filter test (range_with_len (1 + length (kept_of r)) (length rest))) kept
      ∙ ap (λ ns. range_with_len 1 (length (kept_of r)) ++ ns) others
      ∙ append-nil (range_with_len 1 (length (kept_of r)))
      ∙ ap (range_with_len 1) (length-kept EHDR_SIZE 1 r.sections)

  one_section : (i : ℕ) (d : RelSection) → i < length r.sections → section_of (rel_file r) (1 + i) ≡ get_or r.sections i d
  one_section i d lt =
      let bytes = rel_file r in
      let names = section_strings r in
      let s = get_or r.sections i d in
      let len = length-kept EHDR_SIZE 1 r.sections in
      let h = get_or (kept_of r) i null_header in
      let here : section_header bytes (1 + i) ≡ h = lists_at (section_header bytes) 1 (kept_of r) i null_header (kept_listed r w f short) (omega (arith, len, lt)) in
      let is = header_in bytes names (length r.symbols) short (names_fewer r w f short) (names_first r w f short) EHDR_SIZE 1 r.sections i d null_header (sections_stand r w f short) lt in
      let named : name_at (section_names bytes) h.name ≡ s.name = ap (λ names. name_at names h.name) (names_read r w f short) ∙ is.name_is in
      ap (λ (h : SectionHeader). record {
        name = name_at (section_names bytes) h.name;
        kind = h.kind;
        flags = h.flags;
        align = h.align;
        size = h.size;
        filled = section_bytes bytes h;
        rels = rels_at bytes (1 + i);
      }) here
      ∙ rw (named, is.kind_is, is.flags_is, is.align_is, is.size_is, is.filled_is, rels_are r w f short i d lt) refl

  sections_read : sections (rel_file r) ≡ r.sections
  unfolding sections
  sections_read =
      ap (map (section_of (rel_file r))) kept_indices ∙ lists_map (section_of (rel_file r)) 1 r.sections (lists_from (section_of (rel_file r)) 1 r.sections one_section)

  pub read_back : IsRelocatable (rel_file r) r
  unfolding relocatable_of
  read_back = record {
    passes = tests_hold;
    fields = ap (λ ss. record { sections = ss; symbols = r.symbols }) (sym sections_read) ∙ ap (λ ss. record { sections = sections (rel_file r); symbols = ss }) (sym (symbols_read r w f short));
  }

pub written_is_read : WrittenIsRead
written_is_read r w f short = read_back r w f short
