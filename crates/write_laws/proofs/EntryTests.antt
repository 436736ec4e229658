-- The relocations of a written file: their tests hold, and those of each section are read.
use Rattle.std.proofs.Common.{◌≡◌, ℕ, ◌+◌, ◌%◌, ◌<◌, ◌≤◌, Bool, true, false, not, cond, ◌&&◌, ◌||◌, [], ◌∷◌, ◌++◌, length, get_or, All, refl, sym, ap, ◌∙◌, arith, None, append-nil}
use Rattle.std.specs.Prelude.{filter, nat_lt, ◌==◌}
use Rattle.std.specs.List.{flat_map, sum_by}
use Rattle.std.proofs.lemmas.Bool.{le-ltb, eq-eqb, or_from, and_left, false≢true}
use Rattle.std.proofs.lemmas.List.Elements.{All-nil, All-cons, filter-append}
use Rattle.elf_model.specs.declared.constants.TheConstants.{REL_SIZE, SHT_REL, SHT_RELA, MAX_ENTRIES, MAX_SECTIONS_ENTRIES}
use Rattle.elf_model.specs.declared.refusal.ElfKind.TheVariants as kind
use Rattle.elf_model.specs.declared.relocatable.RelObject.{RelObject}
use Rattle.elf_model.specs.declared.relocatable.RelSection.{RelSection}
use Rattle.elf_model.specs.declared.table.SectionHeader.{SectionHeader}
use Rattle.elf_model.specs.Test.{refuses, first_failing, each_below, only_where}
use Rattle.elf_model.specs.Header.{e_shnum, is_one_of, passes_end}
use Rattle.elf_model.specs.Sections.{section_offset, section_header, section_headers}
use Rattle.elf_model.specs.RelSections.{is_kept_at}
use Rattle.elf_model.specs.RelEntries.{relocates, entry_count, entries_so_far, entry_tests, relocating_tests, all_relocating_tests, rels_in, rels_at}
use Rattle.elf_model.proofs.Passing.{both, below_all, where_true}
use Rattle.elf_write.specs.declared.limits.TheConstants.{MAX_FILE_BYTES}
use Rattle.elf_write.specs.RelFile.{null_header, layout_of, headers_of, rel_file}
use Rattle.elf_write.specs.WritableRel.{IsWritableRel}
use Rattle.write_laws.specs.ReadBack.{FitsFields}
use Rattle.write_laws.proofs.Listing.{sum_so_far, none_kept, sum_by-filter-le}
use Rattle.write_laws.proofs.Parts.{length-rels}
use Rattle.write_laws.proofs.Kept.{of_kept_kind}
use Rattle.write_laws.proofs.Tables as table
use Rattle.write_laws.proofs.Tables.{IsTableOf, count_of_all, entry_passes, section_read}
use Rattle.write_laws.proofs.Listed.{part, kept_of, tables_of, symbols_of, strings_of, names_header, headers_read, header_at}
use Rattle.write_laws.proofs.SectionTests.{all_parts, kept_hold, tables_hold, tables_stand}
use Rattle.write_laws.proofs.SymbolTable.{count_is}

module _ (r : RelObject) (w : IsWritableRel r) (f : FitsFields r) (short : length (rel_file r) ≤ MAX_FILE_BYTES) where
  abbrev is_rel_kind : SectionHeader → Bool
  is_rel_kind h = is_one_of (SHT_REL ∷ SHT_RELA ∷ []) h.kind

  -- a header of another kind has no relocations
  no_rels : (h : SectionHeader) → is_rel_kind h ≡ false → relocates (rel_file r) h ≡ false
  unfolding relocates
  no_rels h other = and_left (is_rel_kind h) (is_kept_at (rel_file r) h.info) other

  kept_none : All (λ h. relocates (rel_file r) h ≡ false) (kept_of r)
  kept_none = kept_hold r w f short (λ h. relocates (rel_file r) h ≡ false) (λ s h is. no_rels h (of_kept_kind (λ k. is_one_of (SHT_REL ∷ SHT_RELA ∷ []) k ≡ false) h.kind refl refl refl refl refl is.known_kind))

  -- ---- tests

  -- the table of a section, where a header has relocations
  abbrev IsTable : SectionHeader → Type 0
  IsTable h = relocates (rel_file r) h ≡ true → (s : RelSection) × IsTableOf (rel_file r) (length r.symbols) s h

  none_is : (h : SectionHeader) → relocates (rel_file r) h ≡ false → IsTable h
  none_is h none some = absurd (false≢true (sym none ∙ some))

  all_tables : All IsTable (headers_of r)
  all_tables =
      all_parts r IsTable (none_is null_header (no_rels null_header refl))
      (kept_hold r w f short IsTable (λ s h is. none_is h (no_rels h (of_kept_kind (λ k. is_one_of (SHT_REL ∷ SHT_RELA ∷ []) k ≡ false) h.kind refl refl refl refl refl is.known_kind))))
      (tables_hold r w f short IsTable (λ s at i t some. (s, t)))
      (none_is (symbols_of r) (no_rels (symbols_of r) refl)) (none_is (strings_of r) (no_rels (strings_of r) refl)) (none_is (names_header r) (no_rels (names_header r) refl))

  -- a filter that passes no other headers keeps some of those of tables
  tables_kept : (p : SectionHeader → Bool) → p null_header ≡ false → All (λ h. p h ≡ false) (kept_of r) → p (symbols_of r) ≡ false → p (strings_of r) ≡ false → p (names_header r) ≡ false
      → filter p (headers_of r) ≡ filter p (tables_of r)
  tables_kept p null kept symbols strings names =
      let none = λ (h : SectionHeader). p h ≡ false in
      let three = symbols_of r ∷ strings_of r ∷ names_header r ∷ [] in
      let rest = tables_of r ++ three in
      let last : All (λ h. p h ≡ false) three =
      All-cons (λ h. p h ≡ false) (symbols_of r) (strings_of r ∷ names_header r ∷ []) symbols (All-cons (λ h. p h ≡ false) (strings_of r) (names_header r ∷ []) strings (All-cons (λ h. p h ≡ false) (names_header r) [] names (All-nil (λ h. p h ≡ false)))) in
      ap (λ b. cond b (null_header ∷ filter p (kept_of r ++ rest)) (filter p (kept_of r ++ rest))) null
      ∙ filter-append p (kept_of r) rest
      ∙ ap (λ hs. hs ++ filter p rest) (none_kept p (kept_of r) kept)
      ∙ filter-append p (tables_of r) three
      ∙ ap (λ hs. filter p (tables_of r) ++ hs) (none_kept p three last)
      ∙ append-nil (filter p (tables_of r))

  few_entries : (i : ℕ) → i < e_shnum (rel_file r) → relocates (rel_file r) (section_header (rel_file r) i) ≡ true → entries_so_far (rel_file r) i ≤ MAX_SECTIONS_ENTRIES
  few_entries i lt some =
      let bytes = rel_file r in
      let so_far = sum_so_far (relocates bytes) entry_count (section_header bytes) i (e_shnum bytes) lt some in
      let all : sum_by entry_count (filter (relocates bytes) (section_headers bytes)) ≡ sum_by entry_count (filter (relocates bytes) (tables_of r))
      = ap (λ hs. sum_by entry_count (filter (relocates bytes) hs)) (headers_read r w f short)
      ∙ ap (sum_by entry_count) (tables_kept (relocates bytes) (no_rels null_header refl) kept_none (no_rels (symbols_of r) refl) (no_rels (strings_of r) refl) (no_rels (names_header r) refl)) in
      let within = sum_by-filter-le entry_count (relocates bytes) (tables_of r) in
      let count = count_of_all (layout_of r).symtab (layout_of r).rels 1 r.sections in
      let end = (part r w f short).symbols.inside in
      omega (arith, so_far, all, within, count, end, short)

  table_passes : (i : ℕ) → i < e_shnum (rel_file r) → relocates (rel_file r) (section_header (rel_file r) i) ≡ true → first_failing (relocating_tests (rel_file r) i) ≡ None
  unfolding relocating_tests
  table_passes i lt some =
      let bytes = rel_file r in
      let h = section_header bytes i in
      let at = section_offset bytes i in
      let found = header_at r w f short IsTable i all_tables lt some in
      let s = found.0 in
      let t = found.1 in
      let few = w.sound.few_symbols in
      let size = t.sized in
      let inside = t.held.inside in
      let len = length-rels s.rels in
      let few_rels = t.few in
      let count = table.count_is bytes (length r.symbols) few s h t in
      let rela : (h.kind == SHT_RELA) ≡ false = ap (λ n. n == SHT_RELA) t.is_rel in
      let place : (passes_end bytes h.offset h.size || not (h.size % REL_SIZE == 0)) ≡ false = or_from _ _ (le-ltb _ _ (omega (arith, size, inside, len))) (ap not (eq-eqb (h.size % REL_SIZE) 0 (omega (arith, size)))) in
      let many : (nat_lt MAX_ENTRIES (entry_count h) || nat_lt MAX_SECTIONS_ENTRIES (entries_so_far bytes i)) ≡ false
      = or_from _ _ (le-ltb _ _ (omega (arith, count, few_rels))) (le-ltb _ _ (few_entries i lt some)) in
      both (refuses kind.Rela at (h.kind == SHT_RELA)
      ∷ refuses kind.Table at (passes_end bytes h.offset h.size || not (h.size % REL_SIZE == 0))
      ∷ refuses kind.TooMany at (nat_lt MAX_ENTRIES (entry_count h) || nat_lt MAX_SECTIONS_ENTRIES (entries_so_far bytes i))
      ∷ []) (each_below (entry_count h) (entry_tests bytes h)) (rw (rela, place, many) refl)
      (below_all (entry_tests bytes h) (entry_count h) (λ k within. entry_passes bytes (length r.symbols) few s h k t (count_is r w f short) within))

  pub entries_pass : first_failing (all_relocating_tests (rel_file r)) ≡ None
  unfolding all_relocating_tests
  entries_pass =
      below_all (λ i. only_where (relocates (rel_file r) (section_header (rel_file r) i)) (relocating_tests (rel_file r) i)) (e_shnum (rel_file r))
      (λ i lt. where_true (relocates (rel_file r) (section_header (rel_file r) i)) (relocating_tests (rel_file r) i) (table_passes i lt))

  -- ---- the relocations of each section

  pub rels_are : (i : ℕ) (d : RelSection) → i < length r.sections → rels_at (rel_file r) (1 + i) ≡ (get_or r.sections i d).rels
  unfolding rels_at
  rels_are i d lt =
      let bytes = rel_file r in
      let kept : All (λ h. (h.kind == SHT_REL && h.info == 1 + i) ≡ false) (kept_of r) = kept_hold r w f short (λ h. (h.kind == SHT_REL && h.info == 1 + i) ≡ false) (λ s h is.
      and_left (h.kind == SHT_REL) (h.info == 1 + i) (of_kept_kind (λ k. (k == SHT_REL) ≡ false) h.kind refl refl refl refl refl is.known_kind)) in
      ap (λ hs. flat_map (rels_in bytes) (filter (λ h. h.kind == SHT_REL && h.info == 1 + i) hs)) (headers_read r w f short)
      ∙ ap (flat_map (rels_in bytes)) (tables_kept (λ h. h.kind == SHT_REL && h.info == 1 + i) refl kept refl refl refl)
      ∙ section_read bytes (length r.symbols) w.sound.few_symbols (layout_of r).symtab (layout_of r).rels 1 r.sections i d (tables_stand r w f short) lt
