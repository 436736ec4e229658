-- The tests of section headers hold of a written file.
use Rattle.std.proofs.Common.{◌≡◌, ℕ, ◌*◌, ◌<◌, ◌≤◌, true, false, ◌&&◌, [], ◌∷◌, ◌++◌, length, All, refl, sym, ap, ◌∙◌, arith, None, append-nil}
use Rattle.std.specs.Prelude.{filter, nat_lt, nat_le, ◌==◌, is_none}
use Rattle.std.specs.List.{sum_by}
use Rattle.std.proofs.lemmas.Bool.{le-ltb, lt-leb, ne_eqb, false≢true}
use Rattle.std.proofs.lemmas.List.Elements.{All-nil, All-cons, All-append, filter-append}
use Rattle.elf_model.specs.declared.constants.TheConstants as number
use Rattle.elf_model.specs.declared.constants.TheConstants.{EHDR_SIZE, REL_SIZE, SYM_SIZE, SHT_GROUP, SHT_SYMTAB, SHT_REL, SHT_RELA, SHF_TLS, MAX_ENTRIES, MAX_SECTION_BYTES, MAX_SECTIONS_ENTRIES}
use Rattle.elf_model.specs.declared.refusal.ElfKind.TheVariants as kind
use Rattle.elf_model.specs.declared.relocatable.RelObject.{RelObject}
use Rattle.elf_model.specs.declared.relocatable.RelSection.{RelSection}
use Rattle.elf_model.specs.declared.table.SectionHeader.{SectionHeader}
use Rattle.elf_model.specs.Test.{refuses, first_failing, only_where}
use Rattle.elf_model.specs.Header.{e_shnum, e_shoff, e_shstrndx, passes_end}
use Rattle.elf_model.specs.Sections.{section_offset, section_header, section_headers, section_names}
use Rattle.elf_model.specs.Segments.{has_flag}
use Rattle.elf_model.specs.Strings.{string_at}
use Rattle.elf_model.specs.RelSections.{is_kept, bytes_in_file, bytes_so_far, kept_tests, section_tests, all_section_tests, is_section_align, is_section_range, needed_table_tests}
use Rattle.elf_model.proofs.Passing.{passes, below_all, where_true}
use Rattle.elf_write.specs.declared.limits.TheConstants.{MAX_FILE_BYTES}
use Rattle.elf_write.specs.RelFile.{file_header, null_header, layout_of, headers_of, rel_header, rel_file, section_strings}
use Rattle.elf_write.specs.WritableRel.{IsWritableRel}
use Rattle.write_laws.specs.ReadBack.{FitsFields}
use Rattle.write_laws.proofs.Listing.{sum_so_far, none_kept, all_kept}
use Rattle.write_laws.proofs.Headers.{shentsize_read}
use Rattle.write_laws.proofs.Parts.{length-headers}
use Rattle.write_laws.proofs.Kept.{IsHeaderOf, of_kept_kind, all_headers, bytes_of_all}
use Rattle.write_laws.proofs.Tables.{IsTableOf, Tabled, tabled, all_tables}
use Rattle.write_laws.proofs.Listed.{part, names_first, names_fewer, sections_stand, kept_of, tables_of, symbols_of, strings_of, names_header, shoff, shnum, shstrndx, shnum_is, headers_read, header_at, kept_listed, names_read}

-- ---- section headers in general

-- what holds of the header of each part holds of all
pub all_parts : (r : RelObject) (P : SectionHeader → Type 0) → P null_header → All P (kept_of r) → All P (tables_of r) → P (symbols_of r) → P (strings_of r) → P (names_header r) → All P (headers_of r)
all_parts r P null kept tables symbols strings names =
    let three = symbols_of r ∷ strings_of r ∷ names_header r ∷ [] in
    All-cons P null_header (kept_of r ++ (tables_of r ++ three)) null (All-append P (kept_of r) (tables_of r ++ three) kept (All-append P (tables_of r) three tables
    (All-cons P (symbols_of r) (strings_of r ∷ names_header r ∷ []) symbols (All-cons P (strings_of r) (names_header r ∷ []) strings (All-cons P (names_header r) [] names (All-nil P))))))

module _ (r : RelObject) (w : IsWritableRel r) (f : FitsFields r) (short : length (rel_file r) ≤ MAX_FILE_BYTES) where
  -- ---- the table of the section headers

  pub table_passes : first_failing (needed_table_tests (rel_file r)) ≡ None
  unfolding needed_table_tests
  table_passes =
      let bytes = rel_file r in
      let n = shnum r w f short in
      let m = shnum_is r w f short in
      let at = shoff r w f short in
      let names = shstrndx r w f short in
      let end = (part r w f short).headers.inside in
      let size = length-headers (headers_of r) in
      let some : (e_shnum bytes == 0) ≡ false = ne_eqb (e_shnum bytes) 0 (λ e. omega (arith, e, n)) in
      let inside : passes_end bytes (e_shoff bytes) (number.SHDR_SIZE * e_shnum bytes) ≡ false = le-ltb _ _ (omega (arith, at, m, end, size)) in
      let there : nat_le (e_shnum bytes) (e_shstrndx bytes) ≡ false = lt-leb (e_shnum bytes) (e_shstrndx bytes) (omega (arith, n, names)) in
      rw (some, shentsize_read bytes (file_header (layout_of r)) (part r w f short).header (omega arith), inside, there) refl

  -- ---- kept sections

  -- what holds of the header of each kept section, and of each table of relocations
  pub kept_hold : (P : SectionHeader → Type 0) → ((s : RelSection) (h : SectionHeader) → IsHeaderOf (rel_file r) (section_strings r) s h → P h) → All P (kept_of r)
  kept_hold P each = all_headers (rel_file r) (section_strings r) (length r.symbols) short (names_fewer r w f short) (names_first r w f short) P each EHDR_SIZE 1 r.sections (sections_stand r w f short)

  pub tables_stand : Tabled (rel_file r) (length r.symbols) w.sound.few_symbols (layout_of r).symtab (layout_of r).rels 1 r.sections
  tables_stand =
      tabled (rel_file r) (length r.symbols) w.sound.few_symbols (layout_of r).symtab (layout_of r).rels 1 EHDR_SIZE 1 r.sections (part r w f short).rels (kept_listed r w f short)
      w.sound.sound_sections w.few_rels f.kinds

  pub tables_hold : (P : SectionHeader → Type 0) → ((s : RelSection) (at i : ℕ) → IsTableOf (rel_file r) (length r.symbols) s (rel_header (layout_of r).symtab at i s) → P (rel_header (layout_of r).symtab at i s)) → All P (tables_of r)
  tables_hold P each = all_tables (rel_file r) (length r.symbols) w.sound.few_symbols P (layout_of r).symtab (layout_of r).rels 1 r.sections each tables_stand

  kept_are : filter is_kept (headers_of r) ≡ kept_of r
  kept_are =
      let three = symbols_of r ∷ strings_of r ∷ names_header r ∷ [] in
      let rest = tables_of r ++ three in
      let unkept = λ (h : SectionHeader). is_kept h ≡ false in
      let none : All (λ h. is_kept h ≡ false) rest = All-append (λ h. is_kept h ≡ false) (tables_of r) three (tables_hold (λ h. is_kept h ≡ false) (λ s at i t. refl))
      (All-cons (λ h. is_kept h ≡ false) (symbols_of r) (strings_of r ∷ names_header r ∷ []) refl (All-cons (λ h. is_kept h ≡ false) (strings_of r) (names_header r ∷ []) refl (All-cons (λ h. is_kept h ≡ false) (names_header r) [] refl (All-nil (λ h. is_kept h ≡ false))))) in
      filter-append is_kept (kept_of r) rest
      ∙ ap (λ hs. hs ++ filter is_kept rest) (all_kept is_kept (kept_of r) (kept_hold (λ h. is_kept h ≡ true) (λ s h is. is.kept)))
      ∙ ap (λ hs. kept_of r ++ hs) (none_kept is_kept rest none)
      ∙ append-nil (kept_of r)

  few_bytes : (i : ℕ) → i < e_shnum (rel_file r) → is_kept (section_header (rel_file r) i) ≡ true → bytes_so_far (rel_file r) i ≤ MAX_SECTION_BYTES
  few_bytes i lt kept =
      let bytes = rel_file r in
      let so_far = sum_so_far is_kept bytes_in_file (section_header bytes) i (e_shnum bytes) lt kept in
      let all : sum_by bytes_in_file (filter is_kept (section_headers bytes)) ≡ sum_by bytes_in_file (kept_of r) = ap (λ hs. sum_by bytes_in_file (filter is_kept hs)) (headers_read r w f short) ∙ ap (sum_by bytes_in_file) kept_are in
      let within = bytes_of_all (length r.symbols) EHDR_SIZE 1 r.sections w.sound.sound_sections in
      let end = (part r w f short).rels.inside in
      omega (arith, so_far, all, within, end, short)

  -- what the tests ask of a header
  record IsFine (h : SectionHeader) : Type 0 where
    pub no_group : (h.kind == SHT_GROUP) ≡ false
    pub no_tls : is_kept h ≡ true → has_flag h.flags SHF_TLS ≡ false
    pub placed : is_kept h ≡ true → (is_section_align h.align && is_section_range (rel_file r) h) ≡ true
    pub named : is_kept h ≡ true → is_none (string_at (section_strings r) h.name) ≡ false

  unkept_fine : (h : SectionHeader) → (h.kind == SHT_GROUP) ≡ false → is_kept h ≡ false → IsFine h
  unkept_fine h g none = record {
    no_group = g;
    no_tls = λ k. absurd (false≢true (sym none ∙ k));
    placed = λ k. absurd (false≢true (sym none ∙ k));
    named = λ k. absurd (false≢true (sym none ∙ k));
  }

  all_fine : All IsFine (headers_of r)
  all_fine =
      all_parts r IsFine (unkept_fine null_header refl refl)
      (kept_hold IsFine (λ s h is. record {
        no_group = of_kept_kind (λ k. (k == SHT_GROUP) ≡ false) h.kind refl refl refl refl refl is.known_kind;
        no_tls = λ k. is.no_tls;
        placed = λ k. is.placed;
        named = λ k. is.readable;
      }))
      (tables_hold IsFine (λ s at i t. unkept_fine (rel_header (layout_of r).symtab at i s) refl refl))
      (unkept_fine (symbols_of r) refl refl) (unkept_fine (strings_of r) refl refl) (unkept_fine (names_header r) refl refl)

  kept_passes : (i : ℕ) → i < e_shnum (rel_file r) → is_kept (section_header (rel_file r) i) ≡ true → first_failing (kept_tests (rel_file r) i) ≡ None
  unfolding kept_tests
  kept_passes i lt kept =
      let bytes = rel_file r in
      let h = section_header bytes i in
      let fine = header_at r w f short IsFine i all_fine lt in
      let many : nat_lt MAX_SECTION_BYTES (bytes_so_far bytes i) ≡ false = le-ltb _ _ (few_bytes i lt kept) in
      let named : is_none (string_at (section_names bytes) h.name) ≡ false = ap (λ names. is_none (string_at names h.name)) (names_read r w f short) ∙ fine.named kept in
      rw (fine.no_tls kept, fine.placed kept, many, named) refl

  section_passes : (i : ℕ) → i < e_shnum (rel_file r) → first_failing (section_tests (rel_file r) i) ≡ None
  unfolding section_tests
  section_passes i lt =
      let h = section_header (rel_file r) i in
      let fine = header_at r w f short IsFine i all_fine lt in
      passes (refuses kind.Group (section_offset (rel_file r) i) (h.kind == SHT_GROUP)) (only_where (is_kept h) (kept_tests (rel_file r) i)) fine.no_group
      (where_true (is_kept h) (kept_tests (rel_file r) i) (kept_passes i lt))

  pub sections_pass : first_failing (all_section_tests (rel_file r)) ≡ None
  unfolding all_section_tests
  sections_pass = below_all (section_tests (rel_file r)) (e_shnum (rel_file r)) section_passes
