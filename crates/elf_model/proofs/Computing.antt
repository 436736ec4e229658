-- What a proof unfolds to compute the definitions of an accepted object on a literal file.
use Rattle.std.specs.Prelude.{⊤}
use lib.Count.{ones}
use Rattle.fd_base.specs.Words.{word_in, half_in}
use Rattle.elf_model.specs.Test.{each_below, each_from}
use Rattle.elf_model.specs.Header.{size_tests, magic_tests, abi_tests, ident_tests, machine_tests, type_tests, file_tests, program_table_tests, section_table_tests, header_tests}
use Rattle.elf_model.specs.Segments.{program_header, is_in_range, memory_meets, program_header_tests, segment_tests, some_segment_tests, holds, held_at, is_writable_at, is_executable_at}
use Rattle.elf_model.specs.Strings.{text_at, string_at, name_at}
use Rattle.elf_model.specs.Sections.{section_header, section_names, is_named, rofixup_place, rofixup, rofixup_tests, section_symbol_count}
use Rattle.elf_model.specs.Dynamic.{dynamic_header, entry_at, before_null, entries_of, dynamic_range_tests, dynamic_entries, entry_tests, all_entry_tests, strings_at, string_tests, strings_of, needed_entry_tests, needed_tests, needed_of, soname_tests, soname_of}
use Rattle.elf_model.specs.Symbols.{hash_symbol_count, count_of, hash_tests, symbol_table_tests, count_tests, symbol_count, symbols_offset, symbol_entry, has_function_place, symbol_tests, all_symbol_tests, symbol_of, symbols_of}
use Rattle.elf_model.specs.Relocations.{rel_table_at, rel_table_tests, both_table_tests, rel_entry, is_slot_entry, rel_entries, jmprel_entries, meets, is_in_place, site_tests, rel_entry_tests, all_rel_tests, fixup_tests}
use Rattle.elf_model.specs.Fields.{entries, got, is_got_place, got_tests, strings, symbol_count as fields_symbol_count, symbols_offset as fields_symbols_offset, symbols, rel_entries as fields_rel_entries, jmprel_entries as fields_jmprel_entries, all_rel_entries, fixups, all_fixup_tests, is_symbolic, is_now, extent_of, inits_of}
use Rattle.elf_model.specs.Object.{all_segment_tests, dynamic_tests, name_tests, relocation_tests, tests, object_of}

unfoldable pub computing : ⊤
unfolding ones word_in half_in each_below each_from size_tests magic_tests abi_tests ident_tests machine_tests type_tests file_tests program_table_tests section_table_tests header_tests program_header is_in_range memory_meets program_header_tests segment_tests some_segment_tests holds held_at is_writable_at is_executable_at text_at string_at name_at section_header section_names is_named rofixup_place rofixup rofixup_tests section_symbol_count dynamic_header entry_at before_null entries_of dynamic_range_tests dynamic_entries entry_tests all_entry_tests strings_at string_tests strings_of needed_entry_tests needed_tests needed_of soname_tests soname_of hash_symbol_count count_of hash_tests symbol_table_tests count_tests symbol_count symbols_offset symbol_entry has_function_place symbol_tests all_symbol_tests symbol_of symbols_of rel_table_at rel_table_tests both_table_tests rel_entry is_slot_entry rel_entries jmprel_entries meets is_in_place site_tests rel_entry_tests all_rel_tests fixup_tests entries got is_got_place got_tests strings fields_symbol_count fields_symbols_offset symbols fields_rel_entries fields_jmprel_entries all_rel_entries fixups all_fixup_tests is_symbolic is_now extent_of inits_of all_segment_tests dynamic_tests name_tests relocation_tests tests object_of
computing = tt
