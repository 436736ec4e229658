-- The dynamic section of a written object is found and read.
use Rattle.std.proofs.Common.{◌≡◌, ℕ, ◌+◌, ◌≤◌, suc, Bool, true, false, not, cond, List, [], ◌∷◌, ◌++◌, length, All, Some, None, refl, ap, ◌∙◌, arith, length-append}
use Rattle.std.specs.Prelude.{◌==◌, nat_lt, position, option_and_then, is_none, unwrap_or}
use Rattle.std.specs.Option.{option_map_or}
use Rattle.std.specs.List.{position_or_len}
use Rattle.std.proofs.lemmas.Bool.{lt-ltb}
use Rattle.std.proofs.lemmas.List.Elements.{All-head, All-tail, All-nil, All-cons, All-append}
use Rattle.elf_model.specs.declared.constants.TheConstants.{PT_DYNAMIC}
use Rattle.elf_model.specs.declared.refusal.ElfKind.TheVariants as kind
use Rattle.elf_model.specs.declared.object.Object.{Object}
use Rattle.elf_model.specs.declared.object.Segment.{Segment}
use Rattle.elf_model.specs.declared.table.ProgramHeader.{ProgramHeader}
use Rattle.elf_model.specs.Test.{refuses, of_some, each_from, first_failing}
use Rattle.elf_model.specs.Segments.{header_offset, program_header, loads, held_at}
use Rattle.elf_model.specs.Dynamic.{whole_entries, before_null, entries_of, dynamic_range_tests, dynamic_entries, entry_tests, all_entry_tests}
use Rattle.elf_model.specs.Dynamic as dynamic
use Rattle.elf_model.specs.Fields as field
use Rattle.elf_model.proofs.Passing.{both}
use Rattle.elf_write.specs.declared.entries.Entry.{Entry}
use Rattle.elf_write.specs.declared.limits.TheConstants.{MAX_FILE_BYTES}
use Rattle.elf_write.specs.TableSegment.{null_entry, entries, dynamic_size, layout_of, with_tables}
use Rattle.elf_write.specs.ObjectFile.{end_of, load_header, load_headers, headers_end, table_offset, dynamic_header, object_file}
use Rattle.elf_write.specs.WritableObject.{IsWritableObject}
use Rattle.write_laws.specs.ObjectReadBack.{FitsObjectFields}
use Rattle.write_laws.proofs.ObjectParts.{length-loads}
use Rattle.write_laws.proofs.TableParts.{tables_stand, table_held}
use Rattle.write_laws.proofs.ProgramTests.{phnum, all_read, loads_read}
use Rattle.write_laws.proofs.SegmentTests.{last_is, count}
use Rattle.write_laws.proofs.EntryList.{IsEntryFit, placed, placed_at, whole_read, null_found}
use Rattle.write_laws.proofs.ObjectEntries.{IsGoodEntry, all_good}

-- what stands behind all that don't pass
last_place : {X : Type 0} (p : X → Bool) (xs : List X) (x : X) → All (λ x. p x ≡ false) xs → p x ≡ true → position_or_len p (xs ++ x ∷ []) ≡ length xs
last_place p [] x none here = ap (λ b. cond (not b) (1 + 0) 0) here
last_place p (y ∷ xs) x none here =
    let rest = last_place p xs x (All-tail (λ x. p x ≡ false) y xs none) here in
    let one : 1 + position_or_len p (xs ++ x ∷ []) ≡ suc (length xs) = omega (arith, rest) in
    ap (λ b. cond (not b) (1 + position_or_len p (xs ++ x ∷ [])) 0) (All-head (λ x. p x ≡ false) y xs none) ∙ one

pub last_found : {X : Type 0} (p : X → Bool) (xs : List X) (x : X) → All (λ x. p x ≡ false) xs → p x ≡ true → position p (xs ++ x ∷ []) ≡ Some (length xs)
last_found p xs x none here =
    let len = length-append xs (x ∷ []) in
    ap (λ n. cond (nat_lt n (length (xs ++ x ∷ []))) (Some n) None) (last_place p xs x none here) ∙ ap (λ b. cond b (Some (length xs)) None) (lt-ltb _ _ (omega (arith, len)))

not_dynamic : (at : ℕ) (ss : List Segment) → All (λ h. (h.kind == PT_DYNAMIC) ≡ false) (load_headers at ss)
not_dynamic at [] = All-nil (λ h. (h.kind == PT_DYNAMIC) ≡ false)
not_dynamic at (s ∷ ss) = All-cons (λ h. (h.kind == PT_DYNAMIC) ≡ false) (load_header at s) (load_headers (end_of at s) ss) refl (not_dynamic (end_of at s) ss)

-- the tests of good entries
entries_pass : (at k : ℕ) (es : List Entry) → All IsGoodEntry es → first_failing (each_from k (λ k e. entry_tests e) (placed at es)) ≡ None
unfolding each_from entry_tests
entries_pass at k [] good = refl
entries_pass at k (e ∷ es) good =
    let g = All-head IsGoodEntry e es good in
    both (entry_tests (placed_at at e)) (each_from (suc k) (λ k e. entry_tests e) (placed (at + 8) es)) (rw (g.no_rela, g.no_text, g.sized) refl) (entries_pass (at + 8) (suc k) es (All-tail IsGoodEntry e es good))

module _ (o : Object) (w : IsWritableObject o) (f : FitsObjectFields o) (short : length (object_file o) ≤ MAX_FILE_BYTES) where
  pub header_found : dynamic.dynamic_header (object_file o) ≡ Some (length (load_headers (headers_end o) (with_tables o).segments))
  unfolding dynamic.dynamic_header
  header_found =
      ap (position (λ (h : ProgramHeader). h.kind == PT_DYNAMIC)) (all_read o w f short)
      ∙ last_found (λ (h : ProgramHeader). h.kind == PT_DYNAMIC) (load_headers (headers_end o) (with_tables o).segments) (dynamic_header o) (not_dynamic (headers_end o) (with_tables o).segments) refl

  header_read : program_header (object_file o) (length (load_headers (headers_end o) (with_tables o).segments)) ≡ dynamic_header o
  header_read =
      let n = phnum o w f short in
      let l = length-loads (headers_end o) (with_tables o).segments in
      let c = count o w f short in
      last_is o w f short (length (load_headers (headers_end o) (with_tables o).segments)) (omega (arith, n, l, c)) (omega arith)

  pub entries_are : entries_of (object_file o) (loads (object_file o)) (dynamic_header o) ≡ Some (placed (table_offset o (layout_of o).dynamic) (entries o))
  unfolding entries_of
  entries_are =
      let file = object_file o in
      let h = dynamic_header o in
      let off = table_offset o (layout_of o).dynamic in
      let good = all_good o w f in
      let len = length-append (entries o) (null_entry ∷ []) in
      let fit : All IsEntryFit (entries o ++ null_entry ∷ []) = All-append IsEntryFit (entries o) (null_entry ∷ []) (λ k d lt. (good k d lt).fit) (All-cons IsEntryFit null_entry [] (record { tag = omega arith; value = omega arith }) (All-nil IsEntryFit)) in
      ap (λ hs. option_and_then (λ offset. before_null (whole_entries file offset h.filesz)) (held_at hs h.vaddr h.filesz)) (loads_read o w f short)
      ∙ ap (option_and_then (λ offset. before_null (whole_entries file offset h.filesz))) (table_held o (layout_of o).dynamic (dynamic_size o) (λ k d lt. (w.sound.sized k d lt).filled) (omega arith) (omega arith) (omega arith))
      ∙ ap before_null (whole_read file off (dynamic_size o) (entries o ++ null_entry ∷ []) fit (tables_stand o).dynamic (omega (arith, len)))
      ∙ null_found off (entries o) (λ k d lt. (good k d lt).not_null)

  pub entries_read : field.entries (object_file o) ≡ placed (table_offset o (layout_of o).dynamic) (entries o)
  unfolding field.entries dynamic_entries
  entries_read =
      let file = object_file o in
      ap (λ p. option_map_or (λ i. unwrap_or (entries_of file (loads file) (program_header file i)) []) p []) header_found
      ∙ ap (λ h. unwrap_or (entries_of file (loads file) h) []) header_read
      ∙ ap (λ es. unwrap_or es []) entries_are

  pub range_passes : first_failing (dynamic_range_tests (object_file o) (loads (object_file o))) ≡ None
  unfolding dynamic_range_tests
  range_passes =
      let file = object_file o in
      let i = length (load_headers (headers_end o) (with_tables o).segments) in
      ap (λ p. first_failing (of_some p (λ i. refuses kind.DynRange (header_offset file i) (is_none (entries_of file (loads file) (program_header file i))) ∷ []))) header_found
      ∙ ap (λ h. first_failing (refuses kind.DynRange (header_offset file i) (is_none (entries_of file (loads file) h)) ∷ [])) header_read
      ∙ ap (λ es. first_failing (refuses kind.DynRange (header_offset file i) (is_none es) ∷ [])) entries_are

  pub all_entries_pass : first_failing (all_entry_tests (field.entries (object_file o))) ≡ None
  unfolding all_entry_tests
  all_entries_pass =
      ap (λ es. first_failing (each_from 0 (λ k e. entry_tests e) es)) entries_read ∙ entries_pass (table_offset o (layout_of o).dynamic) 0 (entries o) (all_good o w f)
