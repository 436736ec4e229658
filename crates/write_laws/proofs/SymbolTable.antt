-- The table of symbols of a written file: its tests hold, and reading it gives the symbols.
use Rattle.std.proofs.Common.{◌≡◌, ℕ, ◌+◌, ◌-◌, ◌*◌, ◌/◌, ◌%◌, ◌<◌, ◌≤◌, suc, true, false, not, cond, ◌||◌, List, [], ◌∷◌, ◌++◌, length, get_or, map, take, All, refl, sym, ap, ◌∙◌, subst, arith, Some, None, length-append}
use Rattle.std.specs.Prelude.{filter, slice_get, nat_lt, ◌==◌}
use Rattle.std.specs.Option.{option_map_or}
use Rattle.std.specs.List.{flat_map, range_with_len}
use Rattle.std.proofs.lemmas.Bool.{le-ltb, lt-ltb, ne_eqb, eq-eqb, or_from, and_from}
use Rattle.std.proofs.lemmas.List.Elements.{All-head, All-nil, All-cons, All-append}
use Rattle.std.proofs.lemmas.List.FromFn.{length-map-range_with_len, get_or-map-range_with_len}
use Rattle.elf_model.specs.declared.constants.TheConstants.{SYM_SIZE, SHT_SYMTAB, MAX_ENTRIES}
use Rattle.elf_model.specs.declared.refusal.ElfKind.TheVariants as kind
use Rattle.elf_model.specs.declared.object.Symbol.{Symbol}
use Rattle.elf_model.specs.declared.relocatable.RelObject.{RelObject}
use Rattle.elf_model.specs.declared.table.SectionHeader.{SectionHeader}
use Rattle.elf_model.specs.Test.{ElfTest, refuses, first_failing}
use Rattle.elf_model.specs.Header.{e_shnum, passes_end}
use Rattle.elf_model.specs.Sections.{section_offset, section_header}
use Rattle.elf_model.specs.Symbols.{symbol_entry_of, null_symbol}
use Rattle.elf_model.specs.RelSections.{is_kept, is_kept_at, kept_number, kept_below}
use Rattle.elf_model.specs.RelSymbols as symbol
use Rattle.elf_model.specs.RelSymbols.{symbol_sections, symbol_section, symbol_section_tests, symbol_table_tests, symbol_count, symbols_offset, has_strings, bytes_of, symbol_tests, all_symbol_tests, rel_symbol_of, symbols}
use Rattle.elf_model.proofs.Passing.{both, below_all}
use Rattle.elf_write.specs.declared.limits.TheConstants.{MAX_FILE_BYTES}
use Rattle.elf_write.specs.Words.{table_bytes}
use Rattle.elf_write.specs.Strings.{name_bytes}
use Rattle.elf_write.specs.RelFile.{null_header, layout_of, rel_file, symbol_strings, symbol_rows}
use Rattle.elf_write.specs.WritableRel.{IsWritableRel}
use Rattle.write_laws.specs.ReadBack.{FitsFields}
use Rattle.write_laws.proofs.Holding.{Holds, front, behind, whole, taken}
use Rattle.write_laws.proofs.Listing.{Lists, Each, lists_at, lists_map, each_at, each_lists, one_passes, all_kept}
use Rattle.write_laws.proofs.Kept.{of_kept_kind}
use Rattle.write_laws.proofs.Symbols.{ReadsPlaces, IsEntryOf, symbol_passes, symbol_is, entries}
use Rattle.write_laws.proofs.Listed.{part, length-before, kept_of, tables_of, symbols_of, strings_of, names_header, before_symbols, shnum, kept_listed, length-kept, all_listed, listed, symbols_at, strings_at}
use Rattle.write_laws.proofs.SectionTests.{kept_hold, tables_hold}

-- the symbols behind the null symbol, and it
pub read_all : (read : ℕ → Symbol) (ss : List Symbol) → 0 < length ss → All (λ s. s ≡ null_symbol) (take 1 ss) → Lists read 0 ss → cond (length ss == 0) [] (null_symbol ∷ map read (range_with_len 1 (length ss - 1))) ≡ ss
read_all read [] some null l = absurd (omega arith)
read_all read (s ∷ ss) some null l =
    let len : suc (length ss) - 1 ≡ length ss = omega arith in
    ap (λ b. cond b [] (null_symbol ∷ map read (range_with_len 1 (suc (length ss) - 1)))) (ne_eqb (suc (length ss)) 0 (λ e. omega (arith, e)))
    ∙ ap (λ n. null_symbol ∷ map read (range_with_len 1 n)) len
    ∙ ap (λ xs. null_symbol ∷ xs) (lists_map read 1 ss l.1)
    ∙ ap (λ x. x ∷ ss) (sym (All-head (λ s. s ≡ null_symbol) s [] null))

module _ (r : RelObject) (w : IsWritableRel r) (f : FitsFields r) (short : length (rel_file r) ≤ MAX_FILE_BYTES) where
  -- ---- the one table

  only_one : symbol_sections (rel_file r) ≡ (layout_of r).symtab ∷ []
  unfolding symbol_sections
  only_one =
      let bytes = rel_file r in
      let last = strings_of r ∷ names_header r ∷ [] in
      let all = before_symbols r ++ symbols_of r ∷ last in
      let count : e_shnum bytes ≡ length all = let n = shnum r w f short in let a = length-append (before_symbols r) (symbols_of r ∷ last) in let b = length-before r in omega (arith, n, a, b) in
      let place : 0 + length (before_symbols r) ≡ (layout_of r).symtab = let b = length-before r in omega (arith, b) in
      let before : All (λ h. (h.kind == SHT_SYMTAB) ≡ false) (before_symbols r) =
      All-cons (λ h. (h.kind == SHT_SYMTAB) ≡ false) null_header (kept_of r ++ tables_of r) refl (All-append (λ h. (h.kind == SHT_SYMTAB) ≡ false) (kept_of r) (tables_of r)
      (kept_hold r w f short (λ h. (h.kind == SHT_SYMTAB) ≡ false) (λ s h is. of_kept_kind (λ k. (k == SHT_SYMTAB) ≡ false) h.kind refl refl refl refl refl is.known_kind))
      (tables_hold r w f short (λ h. (h.kind == SHT_SYMTAB) ≡ false) (λ s at i t. refl))) in
      let after : All (λ h. (h.kind == SHT_SYMTAB) ≡ false) last =
      All-cons (λ h. (h.kind == SHT_SYMTAB) ≡ false) (strings_of r) (names_header r ∷ []) refl (All-cons (λ h. (h.kind == SHT_SYMTAB) ≡ false) (names_header r) [] refl (All-nil (λ h. (h.kind == SHT_SYMTAB) ≡ false))) in
      ap (λ n. filter (λ i. (section_header bytes i).kind == SHT_SYMTAB) (range_with_len 0 n)) count
      ∙ one_passes (λ h. h.kind == SHT_SYMTAB) (section_header bytes) 0 (before_symbols r) (symbols_of r) last (all_listed r w f short) before refl after
      ∙ ap (λ n. n ∷ []) place

  section_is : symbol_section (rel_file r) ≡ Some (layout_of r).symtab
  section_is = ap (λ is. slice_get is 0) only_one

  symbols_end : (layout_of r).symbols + (symbols_of r).size ≡ (layout_of r).strings
  symbols_end = omega arith

  strings_end : (layout_of r).strings + (strings_of r).size ≡ (layout_of r).names
  strings_end = omega arith

  size_is : (symbols_of r).size ≡ SYM_SIZE * length r.symbols
  size_is = omega arith

  pub count_is : symbol_count (rel_file r) ≡ length r.symbols
  unfolding symbol_count
  count_is =
      let e : (symbols_of r).size / SYM_SIZE ≡ length r.symbols = let s = size_is in omega (arith, s) in
      ap (λ o. option_map_or (λ i. (section_header (rel_file r) i).size / SYM_SIZE) o 0) section_is ∙ ap (λ (h : SectionHeader). h.size / SYM_SIZE) (symbols_at r w f short) ∙ e

  offset_is : symbols_offset (rel_file r) ≡ (layout_of r).symbols
  unfolding symbols_offset
  offset_is = ap (λ o. option_map_or (λ i. (section_header (rel_file r) i).offset) o 0) section_is ∙ ap (λ (h : SectionHeader). h.offset) (symbols_at r w f short)

  link_is : section_header (rel_file r) (section_header (rel_file r) (layout_of r).symtab).link ≡ strings_of r
  link_is = ap (λ (h : SectionHeader). section_header (rel_file r) h.link) (symbols_at r w f short) ∙ strings_at r w f short

  strings_are : symbol.strings (rel_file r) ≡ symbol_strings r
  unfolding symbol.strings
  strings_are =
      let bytes = rel_file r in
      let h = strings_of r in
      let end = strings_end in
      let size : length (symbol_strings r) ≡ h.size = omega arith in
      ap (λ o. option_map_or (λ i. bytes_of bytes (section_header bytes (section_header bytes i).link)) o []) section_is
      ∙ ap (bytes_of bytes) link_is
      ∙ taken bytes h.offset h.size (symbol_strings r) (part r w f short).strings size

  -- ---- its tests

  strings_there : has_strings (rel_file r) (symbols_of r) ≡ true
  unfolding has_strings
  strings_there =
      let bytes = rel_file r in
      let n = shnum r w f short in
      let inside = (part r w f short).names.inside in
      let end = strings_end in
      let there : nat_lt ((layout_of r).symtab + 1) (e_shnum bytes) ≡ true = lt-ltb _ _ (omega (arith, n)) in
      let fits : passes_end bytes (strings_of r).offset (strings_of r).size ≡ false = le-ltb _ _ (omega (arith, inside, end)) in
      and_from _ _ there (ap (λ (h : SectionHeader). not (passes_end bytes h.offset h.size)) (strings_at r w f short) ∙ ap not fits)

  section_passes : first_failing (symbol_section_tests (rel_file r) (layout_of r).symtab) ≡ None
  unfolding symbol_section_tests
  section_passes =
      let bytes = rel_file r in
      let at = section_offset bytes (layout_of r).symtab in
      let h = symbols_of r in
      let inside = (part r w f short).strings.inside in
      let end = symbols_end in
      let size = size_is in
      let few = w.sound.few_symbols in
      let table : (passes_end bytes h.offset h.size || (not (has_strings bytes h) || not (h.size % SYM_SIZE == 0))) ≡ false =
      or_from _ _ (le-ltb _ _ (omega (arith, inside, end))) (or_from _ _ (ap not strings_there) (ap not (eq-eqb (h.size % SYM_SIZE) 0 (omega (arith, size))))) in
      let many : nat_lt MAX_ENTRIES (h.size / SYM_SIZE) ≡ false = le-ltb _ _ (omega (arith, size, few)) in
      ap (λ (h : SectionHeader). first_failing (refuses kind.Table at (passes_end bytes h.offset h.size || (not (has_strings bytes h) || not (h.size % SYM_SIZE == 0))) ∷ refuses kind.TooMany at (nat_lt MAX_ENTRIES (h.size / SYM_SIZE)) ∷ [])) (symbols_at r w f short)
      ∙ rw (table, many) refl

  pub table_passes : first_failing (symbol_table_tests (rel_file r)) ≡ None
  unfolding symbol_table_tests
  table_passes = rw (section_is, only_one) (section_alone (symbol_section_tests (rel_file r) (layout_of r).symtab) section_passes)
    where
      section_alone : (ts : List ElfTest) → first_failing ts ≡ None → first_failing (ts ++ []) ≡ None
      section_alone ts h = both ts [] h refl

  -- ---- places

  placed_at : (i : ℕ) → i < length r.sections → is_kept (section_header (rel_file r) (1 + i)) ≡ true
  placed_at i lt =
      let len = length-kept 52 1 r.sections in
      let within : i < length (kept_of r) = omega (arith, len, lt) in
      ap is_kept (lists_at (section_header (rel_file r)) 1 (kept_of r) i null_header (kept_listed r w f short) within) ∙ kept_hold r w f short (λ h. is_kept h ≡ true) (λ s h is. is.kept) i null_header within

  kept_there : (i : ℕ) → i < length r.sections → is_kept_at (rel_file r) (i + 1) ≡ true
  unfolding is_kept_at
  kept_there i lt =
      let n = shnum r w f short in
      let e : i + 1 ≡ 1 + i = omega arith in
      and_from _ _ (lt-ltb _ _ (omega (arith, n, lt))) (ap (λ k. is_kept (section_header (rel_file r) k)) e ∙ placed_at i lt)

  numbered : (i : ℕ) → i < length r.sections → kept_number (rel_file r) (i + 1) ≡ i
  numbered i lt =
      let header = section_header (rel_file r) in
      let one : i + 1 ≡ suc i = omega arith in
      let rest = map header (range_with_len 1 i) in
      let len : length rest ≡ i = length-map-range_with_len header 1 i in
      let all : All (λ h. is_kept h ≡ true) rest = λ k d within.
      subst (λ h. is_kept h ≡ true) (sym (get_or-map-range_with_len header 1 i k (1 + k) d (omega (arith, len, within)) refl)) (placed_at k (omega (arith, len, within, lt))) in
      ap (λ n. length (kept_below (rel_file r) n)) one
      ∙ ap (λ h. length (cond (is_kept h) (header 0 ∷ filter is_kept rest) (filter is_kept rest))) (listed r w f short).0
      ∙ ap length (all_kept is_kept rest all)
      ∙ len

  reads : ReadsPlaces (rel_file r) (length r.sections)
  reads =
      let few = w.few_sections in
      let n = shnum r w f short in
      record { few = omega (arith, few); more = omega (arith, n); kept = kept_there; number = numbered }

  -- ---- the symbols

  names_first : Holds (symbol_strings r) 0 (0 ∷ [])
  names_first = front (symbol_strings r) 0 (0 ∷ []) (flat_map name_bytes (map (λ s. s.name) r.symbols)) (whole (symbol_strings r))

  names_rest : Holds (symbol_strings r) 1 (flat_map name_bytes (map (λ s. s.name) r.symbols))
  names_rest = behind (symbol_strings r) 0 (0 ∷ []) (flat_map name_bytes (map (λ s. s.name) r.symbols)) (whole (symbol_strings r))

  IsRead : ℕ → Symbol → Type 0
  IsRead k s = IsEntryOf (rel_file r) (length r.sections) reads (symbol_strings r) s (symbol_entry_of (rel_file r) (layout_of r).symbols k)

  all_entries : Each IsRead 0 r.symbols
  unfolding IsRead
  all_entries =
      let inside = (part r w f short).strings.inside in
      let e : (layout_of r).symbols ≡ (layout_of r).symbols + SYM_SIZE * 0 = omega arith in
      entries (rel_file r) (length r.sections) reads (symbol_strings r) (layout_of r).symbols 0 1 r.symbols (omega (arith, inside, short)) names_first names_rest
      (subst (λ n. Holds (rel_file r) n (table_bytes (symbol_rows 1 r.symbols))) e (part r w f short).symbols)
      w.sound.sound_symbols w.placed f.values f.sizes

  symbol_holds : (k : ℕ) → k < symbol_count (rel_file r) - 1 → first_failing (symbol_tests (rel_file r) (symbol.strings (rel_file r)) (symbol_entry_of (rel_file r) (symbols_offset (rel_file r)) (k + 1))) ≡ None
  unfolding IsRead
  symbol_holds k lt =
      let bytes = rel_file r in
      let count = count_is in
      let within : k + 1 < length r.symbols = omega (arith, count, lt) in
      let e : 0 + (k + 1) ≡ k + 1 = omega arith in
      let is : IsEntryOf bytes (length r.sections) reads (symbol_strings r) (get_or r.symbols (k + 1) null_symbol) (symbol_entry_of bytes (layout_of r).symbols (k + 1))
      = subst (λ n. IsRead n (get_or r.symbols (k + 1) null_symbol)) e (each_at IsRead 0 r.symbols (k + 1) null_symbol all_entries within) in
      ap (λ names. first_failing (symbol_tests bytes names (symbol_entry_of bytes (symbols_offset bytes) (k + 1)))) strings_are
      ∙ ap (λ n. first_failing (symbol_tests bytes (symbol_strings r) (symbol_entry_of bytes n (k + 1)))) offset_is
      ∙ symbol_passes bytes (length r.sections) reads (symbol_strings r) (get_or r.symbols (k + 1) null_symbol) (symbol_entry_of bytes (layout_of r).symbols (k + 1)) is

  pub symbols_pass : first_failing (all_symbol_tests (rel_file r)) ≡ None
  unfolding all_symbol_tests
  symbols_pass =
      below_all (λ k. symbol_tests (rel_file r) (symbol.strings (rel_file r)) (symbol_entry_of (rel_file r) (symbols_offset (rel_file r)) (k + 1))) (symbol_count (rel_file r) - 1) symbol_holds

  pub symbols_read : symbols (rel_file r) ≡ r.symbols
  unfolding symbols IsRead
  symbols_read =
      let bytes = rel_file r in
      let read = λ (i : ℕ). rel_symbol_of bytes (symbol_entry_of bytes (symbols_offset bytes) i) in
      let all : Lists read 0 r.symbols = each_lists IsRead read 0 r.symbols (λ k s is.
      ap (λ n. rel_symbol_of bytes (symbol_entry_of bytes n k)) offset_is
      ∙ symbol_is bytes (length r.sections) reads s (symbol_entry_of bytes (layout_of r).symbols k)
      (subst (λ names. IsEntryOf bytes (length r.sections) reads names s (symbol_entry_of bytes (layout_of r).symbols k)) (sym strings_are) is)) all_entries in
      ap (λ n. cond (n == 0) [] (null_symbol ∷ map read (range_with_len 1 (n - 1)))) count_is ∙ read_all read r.symbols w.some_symbol w.sound.null_first all
