-- The strings of a written object are read.
use Rattle.std.proofs.Common.{◌≡◌, ℕ, ◌+◌, ◌-◌, ◌≤◌, List, [], ◌∷◌, length, Some, None, refl, ap, ◌∙◌, arith, length-append}
use Rattle.std.specs.Prelude.{slice_range, option_map, unwrap_or, is_none}
use Rattle.std.specs.Option.{option_map_or}
use Rattle.fd_base.proofs.Options.{from_map}
use Rattle.elf_model.specs.declared.constants.TheConstants.{DT_STRTAB, DT_STRSZ}
use Rattle.elf_model.specs.declared.refusal.ElfKind.TheVariants as kind
use Rattle.elf_model.specs.declared.object.Object.{Object}
use Rattle.elf_model.specs.declared.table.DynEntry.{DynEntry}
use Rattle.elf_model.specs.Test.{refuses, of_some, first_failing}
use Rattle.elf_model.specs.Segments.{loads, held_at}
use Rattle.elf_model.specs.Dynamic.{first_of, value_of, strings_at, strings_of, string_tests}
use Rattle.elf_model.specs.Fields as field
use Rattle.elf_write.specs.declared.entries.Entry.{Entry}
use Rattle.elf_write.specs.declared.limits.TheConstants.{MAX_FILE_BYTES}
use Rattle.elf_write.specs.Words.{zeros, aligned}
use Rattle.elf_write.specs.TableSegment.{name_strings, entries, layout_of}
use Rattle.elf_write.specs.ObjectFile.{table_offset, object_file}
use Rattle.elf_write.specs.WritableObject.{IsWritableObject}
use Rattle.write_laws.specs.ObjectReadBack.{FitsObjectFields}
use Rattle.write_laws.proofs.Holding.{front, taken}
use Rattle.write_laws.proofs.TableParts.{tables_stand, table_held}
use Rattle.write_laws.proofs.ProgramTests.{loads_read}
use Rattle.write_laws.proofs.EntryList.{placed, value_in, value_read}
use Rattle.write_laws.proofs.EntryValues.{strings_value, strings_size}
use Rattle.write_laws.proofs.DynamicSection.{entries_read}

-- an entry that has a tag's value is found
pub found : (tag offset v : ℕ) (es : List Entry) → value_in tag es ≡ Some v → (e : DynEntry) × (first_of tag (placed offset es) ≡ Some e) × (e.value ≡ v)
found tag offset v es is = from_map (λ (e : DynEntry). e.value) (first_of tag (placed offset es)) v (value_read tag offset es ∙ is)

module _ (o : Object) (w : IsWritableObject o) (f : FitsObjectFields o) (short : length (object_file o) ≤ MAX_FILE_BYTES) where
  -- the value of a tag that is read
  pub value_is : (tag : ℕ) → value_of tag (field.entries (object_file o)) ≡ value_in tag (entries o)
  value_is tag = ap (value_of tag) (entries_read o w f short) ∙ value_read tag (table_offset o (layout_of o).dynamic) (entries o)

  pub first_is : (tag v : ℕ) → value_in tag (entries o) ≡ Some v → (e : DynEntry) × (first_of tag (field.entries (object_file o)) ≡ Some e) × (e.value ≡ v)
  first_is tag v is =
      let one = found tag (table_offset o (layout_of o).dynamic) v (entries o) is in
      (one.0, ap (first_of tag) (entries_read o w f short) ∙ one.1, one.2)

  strings_there : strings_at (object_file o) (loads (object_file o)) (layout_of o).strings (Some (length (name_strings o))) ≡ Some (name_strings o)
  unfolding strings_at
  strings_there =
      let file = object_file o in
      let n = length (name_strings o) in
      let more = zeros (aligned 4 (length (name_strings o)) - length (name_strings o)) in
      let p = length-append (name_strings o) more in
      let off = table_offset o (layout_of o).strings in
      let held = table_held o (layout_of o).strings n (λ k d lt. (w.sound.sized k d lt).filled) (omega arith) (omega (arith, p)) (omega arith) in
      ap (λ hs. option_map (λ offset. slice_range file offset (offset + n)) (held_at hs (layout_of o).strings n)) (loads_read o w f short)
      ∙ ap (option_map (λ offset. slice_range file offset (offset + n))) held
      ∙ ap Some (taken file off n (name_strings o) (front file off (name_strings o) more (tables_stand o).strings) refl)

  table_read : (e : DynEntry) → e.value ≡ (layout_of o).strings → strings_at (object_file o) (loads (object_file o)) e.value (value_of DT_STRSZ (field.entries (object_file o))) ≡ Some (name_strings o)
  table_read e is =
      ap (λ v. strings_at (object_file o) (loads (object_file o)) v (value_of DT_STRSZ (field.entries (object_file o)))) is
      ∙ ap (strings_at (object_file o) (loads (object_file o)) (layout_of o).strings) (value_is DT_STRSZ ∙ strings_size o) ∙ strings_there

  pub strings_read : field.strings (object_file o) ≡ name_strings o
  unfolding field.strings strings_of
  strings_read =
      let file = object_file o in
      let one = first_is DT_STRTAB (layout_of o).strings (strings_value o) in
      ap (λ p. option_map_or (λ (e : DynEntry). unwrap_or (strings_at file (loads file) e.value (value_of DT_STRSZ (field.entries file))) []) p []) one.1
      ∙ ap (λ s. unwrap_or s []) (table_read one.0 one.2)

  pub strings_pass : first_failing (string_tests (object_file o) (loads (object_file o)) (field.entries (object_file o))) ≡ None
  unfolding string_tests
  strings_pass =
      let file = object_file o in
      let one = first_is DT_STRTAB (layout_of o).strings (strings_value o) in
      ap (λ p. first_failing (of_some p (λ e. refuses kind.Table e.offset (is_none (strings_at file (loads file) e.value (value_of DT_STRSZ (field.entries file)))) ∷ []))) one.1
      ∙ ap (λ s. first_failing (refuses kind.Table (one.0).offset (is_none s) ∷ [])) (table_read one.0 one.2)
