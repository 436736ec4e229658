-- How many symbols a written object has, and where they stand, are read.
use Rattle.std.proofs.Common.{◌≡◌, ℕ, ◌+◌, ◌<◌, ◌≤◌, [], ◌∷◌, length, Some, None, ap, ◌∙◌, arith}
use Rattle.std.specs.Prelude.{option_map, unwrap_or, is_none}
use Rattle.std.specs.Option.{option_map_or}
use Rattle.fd_base.specs.Words.{word_in}
use Rattle.elf_model.specs.declared.constants.TheConstants.{HASH_NCHAIN, DT_HASH, DT_SYMTAB}
use Rattle.elf_model.specs.declared.refusal.ElfKind.TheVariants as kind
use Rattle.elf_model.specs.declared.object.Object.{Object}
use Rattle.elf_model.specs.declared.table.DynEntry.{DynEntry}
use Rattle.elf_model.specs.Test.{refuses, of_some, first_failing}
use Rattle.elf_model.specs.Segments.{loads, held_at}
use Rattle.elf_model.specs.Sections.{section_symbol_count}
use Rattle.elf_model.specs.Symbols as symbol
use Rattle.elf_model.specs.Symbols.{hash_symbol_count, count_of, hash_tests}
use Rattle.elf_model.specs.Fields as field
use Rattle.elf_write.specs.declared.limits.TheConstants.{MAX_FILE_BYTES}
use Rattle.elf_write.specs.HashTable.{hash_words}
use Rattle.elf_write.specs.TableSegment.{layout_of, tables_vaddr, table_end}
use Rattle.elf_write.specs.ObjectFile.{table_offset, object_file}
use Rattle.elf_write.specs.WritableObject.{IsWritableObject}
use Rattle.write_laws.specs.ObjectReadBack.{FitsObjectFields}
use Rattle.write_laws.proofs.Holding.{words_held}
use Rattle.write_laws.proofs.TableParts.{tables_stand, table_held}
use Rattle.write_laws.proofs.ProgramTests.{loads_read}
use Rattle.write_laws.proofs.EntryValues.{hash_value, symbols_value}
use Rattle.write_laws.proofs.ObjectStrings.{first_is}

module _ (o : Object) (w : IsWritableObject o) (f : FitsObjectFields o) (short : length (object_file o) ≤ MAX_FILE_BYTES) where
  -- what stands at a link address of the tables is held
  pub held_in : (addr n : ℕ) → tables_vaddr o ≤ addr → addr + n ≤ table_end o → 0 < n → held_at (loads (object_file o)) addr n ≡ Some (table_offset o addr)
  held_in addr n from to some = ap (λ hs. held_at hs addr n) (loads_read o w f short) ∙ table_held o addr n (λ k d lt. (w.sound.sized k d lt).filled) from to some

  count_read : (e : DynEntry) → e.value ≡ (layout_of o).hash → hash_symbol_count (object_file o) (loads (object_file o)) e ≡ Some (length o.symbols)
  unfolding hash_symbol_count
  count_read e is =
      let file = object_file o in
      let off = table_offset o (layout_of o).hash in
      let few = w.few_symbols in
      let word : word_in file (off + 4) ≡ length o.symbols = words_held file off (hash_words o.symbols) 1 (tables_stand o).hash (omega arith) (omega (arith, few)) in
      ap (λ v. option_map (λ at. word_in file (at + HASH_NCHAIN)) (held_at (loads file) v 8)) is
      ∙ ap (option_map (λ at. word_in file (at + HASH_NCHAIN))) (held_in (layout_of o).hash 8 (omega arith) (omega arith) (omega arith))
      ∙ ap Some word

  pub count_is : (addr : ℕ) → count_of (object_file o) (loads (object_file o)) (field.entries (object_file o)) addr ≡ Some (length o.symbols)
  unfolding count_of
  count_is addr =
      let one = first_is o w f short DT_HASH (layout_of o).hash (hash_value o) in
      ap (λ p. option_map_or (hash_symbol_count (object_file o) (loads (object_file o))) p (section_symbol_count (object_file o) addr)) one.1 ∙ count_read one.0 one.2

  pub symbol_count_is : field.symbol_count (object_file o) ≡ length o.symbols
  unfolding field.symbol_count symbol.symbol_count
  symbol_count_is =
      let file = object_file o in
      let one = first_is o w f short DT_SYMTAB (layout_of o).symbols (symbols_value o) in
      ap (λ p. option_map_or (λ (table : DynEntry). unwrap_or (count_of file (loads file) (field.entries file) table.value) 0) p 0) one.1
      ∙ ap (λ c. unwrap_or c 0) (count_is (one.0).value)

  pub hash_passes : first_failing (hash_tests (object_file o) (loads (object_file o)) (field.entries (object_file o))) ≡ None
  unfolding hash_tests
  hash_passes =
      let file = object_file o in
      let one = first_is o w f short DT_HASH (layout_of o).hash (hash_value o) in
      ap (λ p. first_failing (of_some p (λ hash. refuses kind.Table hash.offset (is_none (held_at (loads file) hash.value 8)) ∷ []))) one.1
      ∙ ap (λ v. first_failing (refuses kind.Table (one.0).offset (is_none (held_at (loads file) v 8)) ∷ [])) one.2
      ∙ ap (λ h. first_failing (refuses kind.Table (one.0).offset (is_none h) ∷ [])) (held_in (layout_of o).hash 8 (omega arith) (omega arith) (omega arith))
