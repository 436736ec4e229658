-- What is written of an object is read back.
use Rattle.std.proofs.Common.{◌≡◌, ◌≤◌, ◌++◌, length, refl, sym, None}
use Rattle.elf_model.specs.declared.constants.TheConstants.{E_PHOFF}
use Rattle.elf_model.specs.declared.object.Object.{Object}
use Rattle.elf_model.specs.Test.{first_failing}
use Rattle.elf_model.specs.Header.{header_tests}
use Rattle.elf_model.specs.Segments.{loads}
use Rattle.elf_model.specs.Sections.{rofixup_tests}
use Rattle.elf_model.specs.Dynamic.{dynamic_range_tests, all_entry_tests, dynamic_offset_or, string_tests, needed_tests, soname_tests}
use Rattle.elf_model.specs.Symbols.{count_tests, all_symbol_tests}
use Rattle.elf_model.specs.Relocations.{both_table_tests, all_rel_tests}
use Rattle.elf_model.specs.Fields as field
use Rattle.elf_model.specs.Object.{all_segment_tests, dynamic_tests, name_tests, relocation_tests, tests, object_of}
use Rattle.elf_model.proofs.Passing.{both}
use Rattle.elf_write.specs.declared.limits.TheConstants.{MAX_FILE_BYTES}
use Rattle.elf_write.specs.TableSegment.{with_tables}
use Rattle.elf_write.specs.ObjectFile.{object_file}
use Rattle.elf_write.specs.WritableObject.{IsWritableObject}
use Rattle.write_laws.specs.ObjectReadBack.{FitsObjectFields, WrittenObjectIsRead}
use Rattle.write_laws.proofs.ProgramTests.{segments_are}
use Rattle.write_laws.proofs.SegmentTests.{segments_pass}
use Rattle.write_laws.proofs.DynamicSection.{range_passes, all_entries_pass}
use Rattle.write_laws.proofs.ObjectStrings.{strings_pass}
use Rattle.write_laws.proofs.ObjectSymbols.{count_passes, symbols_pass, symbols_are}
use Rattle.write_laws.proofs.ObjectNames.{needed_pass, needed_are_read, soname_passes, soname_is_read, symbolic_is_read, now_is_read, inits_are_read}
use Rattle.write_laws.proofs.ObjectRels.{tables_pass, rels_are_read, jmprels_are_read}
use Rattle.write_laws.proofs.ObjectSections.{header_passes, rofixup_passes, fixups_are, entry_is, kind_is}
use Rattle.write_laws.proofs.ObjectSites.{got_is, got_passes, rels_pass, all_fixups_pass}

module _ (o : Object) (w : IsWritableObject o) (f : FitsObjectFields o) (short : length (object_file o) ≤ MAX_FILE_BYTES) where
  dynamic_pass : first_failing (dynamic_tests (object_file o)) ≡ None
  unfolding dynamic_tests
  dynamic_pass =
      let file = object_file o in
      both (dynamic_range_tests file (loads file)) (all_entry_tests (field.entries file) ++ (rofixup_tests file ++ field.got_tests file)) (range_passes o w f short)
      (both (all_entry_tests (field.entries file)) (rofixup_tests file ++ field.got_tests file) (all_entries_pass o w f short)
      (both (rofixup_tests file) (field.got_tests file) (rofixup_passes o w f short) (got_passes o w f short)))

  names_pass : first_failing (name_tests (object_file o)) ≡ None
  unfolding name_tests
  names_pass =
      let file = object_file o in
      let hs = loads file in
      let es = field.entries file in
      let names = needed_tests (field.strings file) es ++ soname_tests (field.strings file) es in
      let symbols = all_symbol_tests file hs (field.strings file) (field.symbols_offset file) (field.symbol_count file) in
      let at = dynamic_offset_or file E_PHOFF in
      both (string_tests file hs es) (count_tests file hs es at ++ (symbols ++ names)) (strings_pass o w f short)
      (both (count_tests file hs es at) (symbols ++ names) (count_passes o w f short at)
      (both symbols names (symbols_pass o w f short) (both (needed_tests (field.strings file) es) (soname_tests (field.strings file) es) (needed_pass o w f short) (soname_passes o w f short))))

  relocations_pass : first_failing (relocation_tests (object_file o)) ≡ None
  unfolding relocation_tests
  relocations_pass =
      let file = object_file o in
      let rels = all_rel_tests (loads file) (field.symbol_count file) (field.got_or_zero file) (field.all_rel_entries file) in
      both (both_table_tests (loads file) (field.entries file)) (rels ++ field.all_fixup_tests file) (tables_pass o w f short)
      (both rels (field.all_fixup_tests file) (rels_pass o w f short) (all_fixups_pass o w f short))

  tests_hold : first_failing (tests (object_file o)) ≡ None
  unfolding tests
  tests_hold =
      let file = object_file o in
      let two = name_tests file ++ relocation_tests file in
      let three = dynamic_tests file ++ two in
      both (header_tests file) (all_segment_tests file ++ three) (header_passes o w f short)
      (both (all_segment_tests file) three (segments_pass o w f short)
      (both (dynamic_tests file) two dynamic_pass
      (both (name_tests file) (relocation_tests file) names_pass relocations_pass)))

  object_read : object_of (object_file o) ≡ with_tables o
  unfolding object_of
  object_read =
      rw (
        kind_is o w f short,
        entry_is o w f short,
        segments_are o w f short,
        got_is o w f short,
        needed_are_read o w f short,
        soname_is_read o w f short,
        symbols_are o w f short,
        rels_are_read o w f short,
        jmprels_are_read o w f short,
        fixups_are o w f short,
        symbolic_is_read o w f short,
        now_is_read o w f short,
        inits_are_read o w f short,
      ) refl

pub written_object_is_read : WrittenObjectIsRead
written_object_is_read o w f short = record { passes = tests_hold o w f short; fields = sym (object_read o w f short) }
