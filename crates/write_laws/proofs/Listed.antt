-- The section headers of a written file, as they are listed.
use Rattle.std.proofs.Common.{◌≡◌, ℕ, ◌+◌, ◌*◌, ◌^◌, ◌<◌, ◌≤◌, suc, Bool, true, false, cond, List, [], ◌∷◌, ◌++◌, length, map, All, refl, sym, ap, ◌∙◌, subst, arith, append_assoc, length-append}
use Rattle.std.specs.Prelude.{filter, slice_range, ◌==◌}
use Rattle.std.specs.List.{flat_map, range_with_len, sum_by}
use Rattle.std.proofs.lemmas.Bool.{le-ltb}
use Rattle.std.proofs.lemmas.Grind.{flat_map-append}
use Rattle.std.proofs.lemmas.List.Elements.{All-nil, All-cons, All-append}
use Rattle.std.proofs.lemmas.List.Sums.{sum_by-cons, prefix_len-le-length}
use Rattle.elf_model.specs.declared.constants.TheConstants.{EHDR_SIZE, REL_SIZE}
use Rattle.elf_model.specs.declared.relocatable.RelObject.{RelObject}
use Rattle.elf_model.specs.declared.relocatable.RelSection.{RelSection}
use Rattle.elf_model.specs.declared.table.SectionHeader.{SectionHeader}
use Rattle.elf_model.specs.Header.{e_shnum, e_shoff, e_shstrndx, passes_end}
use Rattle.elf_model.specs.Sections.{section_offset, section_header, section_headers, section_names}
use Rattle.elf_write.specs.declared.limits.TheConstants.{MAX_FILE_BYTES}
use Rattle.elf_write.specs.Words.{section_row, table_bytes}
use Rattle.elf_write.specs.Strings.{name_bytes, behind}
use Rattle.elf_write.specs.RelFile.{file_header, end_of, names_of, table_names, section_strings, table_names_place, null_header, kept_headers, has_rels, rel_size, rel_header, rel_header_if, rel_headers, local_count, layout_of, strings_header, symbols_header, headers_of, rel_file}
use Rattle.elf_write.specs.WritableRel.{IsWritableRel}
use Rattle.write_laws.specs.ReadBack.{FitsFields}
use Rattle.write_laws.proofs.Holding as holding
use Rattle.write_laws.proofs.Holding.{Holds, front, whole, taken}
use Rattle.write_laws.proofs.Listing.{Lists, lists_map, lists_at, lists_front, lists_behind, filter_shorter}
use Rattle.write_laws.proofs.Headers.{IsFit, headers_listed, shoff_read, shnum_read, shstrndx_read}
use Rattle.write_laws.proofs.Parts.{Stands, stands}
use Rattle.write_laws.proofs.Kept.{Written, written, all_headers}

-- ---- how many there are

pub length-kept : (at name : ℕ) (ss : List RelSection) → length (kept_headers at name ss) ≡ length ss
length-kept at name [] = refl
length-kept at name (s ∷ ss) = ap suc (length-kept (end_of at s) (behind name s.name) ss)

length-tables : (symtab at i : ℕ) (ss : List RelSection) → length (rel_headers symtab at i ss) ≡ length (filter has_rels ss)
length-tables symtab at i [] = refl
length-tables symtab at i (s ∷ ss) =
    by_test (has_rels s) (rel_header symtab at i s) (rel_headers symtab (at + rel_size s) (i + 1) ss) (filter has_rels ss) (length-tables symtab (at + rel_size s) (i + 1) ss)
  where
    by_test : (b : Bool) (h : SectionHeader) (hs : List SectionHeader) (xs : List RelSection) → length hs ≡ length xs → length (cond b (h ∷ []) [] ++ hs) ≡ length (cond b (s ∷ xs) xs)
    by_test true h hs xs e = ap suc e
    by_test false h hs xs e = e

-- ---- that they fit

tables_fit : (symtab at i : ℕ) (ss : List RelSection) → symtab < 2 ^ 32 → i + length ss < 2 ^ 32 → at + REL_SIZE * sum_by (λ s. length s.rels) ss < 2 ^ 32 → All IsFit (rel_headers symtab at i ss)
tables_fit symtab at i [] n few short = All-nil IsFit
tables_fit symtab at i (s ∷ ss) n few short =
    let sum = sum_by-cons (λ s. length s.rels) s ss in
    All-append IsFit (rel_header_if symtab at i s) (rel_headers symtab (at + rel_size s) (i + 1) ss)
    (if_some (has_rels s) (rel_header symtab at i s) (record {
      name = omega arith;
      kind = omega arith;
      flags = omega arith;
      addr = omega arith;
      offset = omega (arith, short);
      size = omega (arith, short, sum);
      link = n;
      info = omega (arith, few);
      align = omega arith;
    }))
    (tables_fit symtab (at + rel_size s) (i + 1) ss n (omega (arith, few)) (omega (arith, short, sum)))
  where
    if_some : (b : Bool) (h : SectionHeader) → IsFit h → All IsFit (cond b (h ∷ []) [])
    if_some true h f = All-cons IsFit h [] f (All-nil IsFit)
    if_some false h f = All-nil IsFit

strings_fit : (name from to : ℕ) → name < 2 ^ 32 → from < 2 ^ 32 → to < 2 ^ 32 → IsFit (strings_header name from to)
strings_fit name from to n f t = record {
  name = n;
  kind = omega arith;
  flags = omega arith;
  addr = omega arith;
  offset = f;
  size = omega (arith, t);
  link = omega arith;
  info = omega arith;
  align = omega arith;
}

null_fit : IsFit null_header
null_fit = record {
  name = omega arith;
  kind = omega arith;
  flags = omega arith;
  addr = omega arith;
  offset = omega arith;
  size = omega arith;
  link = omega arith;
  info = omega arith;
  align = omega arith;
}

-- ---- those of one file

-- the headers of the kept sections, of the tables of relocations, and of the other tables
abbrev pub kept_of : RelObject → List SectionHeader
kept_of r = kept_headers EHDR_SIZE 1 r.sections

abbrev pub tables_of : RelObject → List SectionHeader
tables_of r = rel_headers (layout_of r).symtab (layout_of r).rels 1 r.sections

abbrev pub symbols_of : RelObject → SectionHeader
symbols_of r = symbols_header (layout_of r) (table_names_place r) (local_count r.symbols)

abbrev pub strings_of : RelObject → SectionHeader
strings_of r = strings_header (table_names_place r + 8) (layout_of r).strings (layout_of r).names

abbrev pub names_header : RelObject → SectionHeader
names_header r = strings_header (table_names_place r + 16) (layout_of r).names (layout_of r).headers

-- those before the table of symbols
abbrev pub before_symbols : RelObject → List SectionHeader
before_symbols r = null_header ∷ (kept_of r ++ tables_of r)

pub length-before : (r : RelObject) → length (before_symbols r) ≡ (layout_of r).symtab
length-before r =
    let a = length-append (kept_of r) (tables_of r) in
    let b = length-kept EHDR_SIZE 1 r.sections in
    let c = length-tables (layout_of r).symtab (layout_of r).rels 1 r.sections in
    omega (arith, a, b, c)

pub headers_are : (r : RelObject) → headers_of r ≡ before_symbols r ++ (symbols_of r ∷ strings_of r ∷ names_header r ∷ [])
headers_are r = ap (λ hs. null_header ∷ hs) (sym (append_assoc (kept_of r) (tables_of r) (symbols_of r ∷ strings_of r ∷ names_header r ∷ [])))

module _ (r : RelObject) (w : IsWritableRel r) (f : FitsFields r) (short : length (rel_file r) ≤ MAX_FILE_BYTES) where
  pub part : Stands (rel_file r) r
  part = stands r

  -- the names of the sections

  all_names : section_strings r ≡ (0 ∷ []) ++ (flat_map name_bytes (names_of r.sections) ++ flat_map name_bytes table_names)
  all_names = ap (λ xs. 0 ∷ xs) (flat_map-append name_bytes (names_of r.sections) table_names)

  pub names_first : Holds (section_strings r) 0 (0 ∷ [])
  names_first = front (section_strings r) 0 (0 ∷ []) (flat_map name_bytes (names_of r.sections) ++ flat_map name_bytes table_names) (subst (Holds (section_strings r) 0) all_names (whole (section_strings r)))

  pub names_kept : Holds (section_strings r) 1 (flat_map name_bytes (names_of r.sections))
  names_kept =
      front (section_strings r) 1 (flat_map name_bytes (names_of r.sections)) (flat_map name_bytes table_names)
      (holding.behind (section_strings r) 0 (0 ∷ []) (flat_map name_bytes (names_of r.sections) ++ flat_map name_bytes table_names) (subst (Holds (section_strings r) 0) all_names (whole (section_strings r))))

  pub names_fewer : length (section_strings r) ≤ length (rel_file r)
  names_fewer = let i = part.names.inside in omega (arith, i)

  -- sizes

  pub few_headers : (layout_of r).symtab + 3 < 2 ^ 16
  few_headers = let n = w.few_sections in let m = filter_shorter has_rels r.sections in omega (arith, n, m)

  -- where the headers begin, and so all before them, is no large number
  headers_fit : (layout_of r).headers < 2 ^ 32
  headers_fit = let i = part.headers.inside in omega (arith, i, short)

  places_fit : table_names_place r + 25 ≤ length (section_strings r)
  places_fit =
      let a = ap length all_names in
      let b = length-append (flat_map name_bytes (names_of r.sections)) (flat_map name_bytes table_names) in
      let c : length (flat_map name_bytes table_names) ≡ 26 = refl in
      omega (arith, a, b, c)

  pub sections_stand : Written (rel_file r) (section_strings r) (length r.symbols) short names_fewer names_first EHDR_SIZE 1 r.sections
  sections_stand = written (rel_file r) (section_strings r) (length r.symbols) short names_fewer names_first EHDR_SIZE 1 r.sections part.filled names_kept w.sound.sound_sections f.flags

  all_fit : All IsFit (headers_of r)
  all_fit =
      let l = layout_of r in
      let few = few_headers in
      let name = places_fit in
      let names = names_fewer in
      let end = headers_fit in
      let locals = prefix_len-le-length (λ s. s.binding == 0) r.symbols in
      let few_symbols = w.sound.few_symbols in
      let few_sections = w.few_sections in
      let kept = all_headers (rel_file r) (section_strings r) (length r.symbols) short names_fewer names_first IsFit (λ s h is. is.fit) EHDR_SIZE 1 r.sections sections_stand in
      let tables = tables_fit l.symtab l.rels 1 r.sections (omega (arith, few)) (omega (arith, few_sections)) (omega (arith, end)) in
      let symbols : IsFit (symbols_of r) = record {
        name = omega (arith, name, names, short);
        kind = omega arith;
        flags = omega arith;
        addr = omega arith;
        offset = omega (arith, end);
        size = omega (arith, end);
        link = omega (arith, few);
        info = omega (arith, locals, few_symbols);
        align = omega arith;
      } in
      let strings = strings_fit (table_names_place r + 8) l.strings l.names (omega (arith, name, names, short)) (omega (arith, end)) (omega (arith, end)) in
      let last = strings_fit (table_names_place r + 16) l.names l.headers (omega (arith, name, names, short)) (omega (arith, end)) end in
      let three = All-cons IsFit (symbols_of r) (strings_of r ∷ names_header r ∷ []) symbols (All-cons IsFit (strings_of r) (names_header r ∷ []) strings (All-cons IsFit (names_header r) [] last (All-nil IsFit))) in
      All-cons IsFit null_header (kept_of r ++ (tables_of r ++ (symbols_of r ∷ strings_of r ∷ names_header r ∷ []))) null_fit
      (All-append IsFit (kept_of r) (tables_of r ++ (symbols_of r ∷ strings_of r ∷ names_header r ∷ [])) kept (All-append IsFit (tables_of r) (symbols_of r ∷ strings_of r ∷ names_header r ∷ []) tables three))

  -- ---- the header of the file

  pub shoff : e_shoff (rel_file r) ≡ (layout_of r).headers
  shoff = shoff_read (rel_file r) (file_header (layout_of r)) part.header headers_fit

  pub shnum : e_shnum (rel_file r) ≡ (layout_of r).symtab + 3
  shnum = shnum_read (rel_file r) (file_header (layout_of r)) part.header few_headers (let n = few_headers in omega (arith, n))

  pub shstrndx : e_shstrndx (rel_file r) ≡ (layout_of r).symtab + 2
  shstrndx = shstrndx_read (rel_file r) (file_header (layout_of r)) part.header few_headers (let n = few_headers in omega (arith, n))

  pub shnum_is : e_shnum (rel_file r) ≡ length (headers_of r)
  shnum_is =
      let a = ap length (headers_are r) in
      let b = length-append (before_symbols r) (symbols_of r ∷ strings_of r ∷ names_header r ∷ []) in
      let c = length-before r in
      let d = shnum in
      omega (arith, a, b, c, d)

  -- ---- the headers of the sections

  pub listed : Lists (section_header (rel_file r)) 0 (headers_of r)
  listed =
      let e : (layout_of r).headers ≡ section_offset (rel_file r) 0 = let s = shoff in omega (arith, s) in
      headers_listed (rel_file r) 0 (headers_of r) all_fit (subst (λ n. Holds (rel_file r) n (table_bytes (map section_row (headers_of r)))) e part.headers)

  pub headers_read : section_headers (rel_file r) ≡ headers_of r
  headers_read = ap (λ n. map (section_header (rel_file r)) (range_with_len 0 n)) shnum_is ∙ lists_map (section_header (rel_file r)) 0 (headers_of r) listed

  -- what holds of all of them holds at each index
  pub header_at : (P : SectionHeader → Type 0) (i : ℕ) → All P (headers_of r) → i < e_shnum (rel_file r) → P (section_header (rel_file r) i)
  header_at P i all lt =
      let n = shnum_is in
      let within : i < length (headers_of r) = omega (arith, n, lt) in
      let e : i ≡ 0 + i = omega arith in
      subst P (sym (ap (section_header (rel_file r)) e ∙ lists_at (section_header (rel_file r)) 0 (headers_of r) i null_header listed within)) (all i null_header within)

  pub kept_listed : Lists (section_header (rel_file r)) 1 (kept_of r)
  kept_listed = lists_front (section_header (rel_file r)) 1 (kept_of r) (tables_of r ++ (symbols_of r ∷ strings_of r ∷ names_header r ∷ [])) listed.1

  pub all_listed : Lists (section_header (rel_file r)) 0 (before_symbols r ++ (symbols_of r ∷ strings_of r ∷ names_header r ∷ []))
  all_listed = subst (Lists (section_header (rel_file r)) 0) (headers_are r) listed

  last_listed : Lists (section_header (rel_file r)) (layout_of r).symtab (symbols_of r ∷ strings_of r ∷ names_header r ∷ [])
  last_listed =
      let e : 0 + length (before_symbols r) ≡ (layout_of r).symtab = let n = length-before r in omega (arith, n) in
      subst (λ n. Lists (section_header (rel_file r)) n (symbols_of r ∷ strings_of r ∷ names_header r ∷ [])) e
      (lists_behind (section_header (rel_file r)) 0 (before_symbols r) (symbols_of r ∷ strings_of r ∷ names_header r ∷ []) all_listed)

  pub symbols_at : section_header (rel_file r) (layout_of r).symtab ≡ symbols_of r
  symbols_at = last_listed.0

  pub strings_at : section_header (rel_file r) ((layout_of r).symtab + 1) ≡ strings_of r
  strings_at = last_listed.1.0

  pub names_at : section_header (rel_file r) ((layout_of r).symtab + 2) ≡ names_header r
  names_at = let e : (layout_of r).symtab + 2 ≡ ((layout_of r).symtab + 1) + 1 = omega arith in ap (section_header (rel_file r)) e ∙ last_listed.1.1.0

  -- ---- the names of the sections

  names_end : (layout_of r).names + (names_header r).size ≡ (layout_of r).headers
  names_end = omega arith

  pub names_read : section_names (rel_file r) ≡ section_strings r
  unfolding section_names
  names_read =
      let bytes = rel_file r in
      let h = names_header r in
      let inside = part.names.inside in
      let end = names_end in
      let size : length (section_strings r) ≡ h.size = omega arith in
      let fits : passes_end bytes h.offset h.size ≡ false = le-ltb _ _ (omega (arith, inside, size)) in
      ap (λ (h : SectionHeader). cond (passes_end bytes h.offset h.size) [] (slice_range bytes h.offset (h.offset + h.size))) (ap (section_header bytes) shstrndx ∙ names_at)
      ∙ ap (λ b. cond b [] (slice_range bytes h.offset (h.offset + h.size))) fits
      ∙ taken bytes h.offset h.size (section_strings r) part.names size
