-- The symbols of a written object: their tests hold, and reading them gives the symbols.
use Rattle.std.proofs.Common.{◌≡◌, ℕ, ◌+◌, ◌-◌, ◌*◌, ◌%◌, ◌^◌, ◌<◌, ◌≤◌, true, false, not, cond, ◌&&◌, ◌||◌, List, [], ◌∷◌, ◌++◌, length, get_or, map, take, All, Option, Some, None, refl, sym, ap, ◌∙◌, subst, arith, inl, inr}
use Rattle.std.specs.Prelude.{nat_lt, nat_le, ◌==◌, is_none, unwrap_or}
use Rattle.std.specs.Option.{option_map_or}
use Rattle.std.specs.List.{flat_map, list_any, range_with_len}
use Rattle.std.proofs.lemmas.Bool.{lt-ltb, le-ltb, le-leb, lt-leb, ne_eqb, eqb-true, and_from, and_parts, cases_lt, false≢true}
use Rattle.std.proofs.lemmas.Grind.{flat_map-append}
use Rattle.std.proofs.lemmas.List.Elements.{All-head, All-tail}
use Rattle.std.proofs.lemmas.List.Folds.{list_any-append}
use Rattle.fd_base.specs.Words.{word_bytes}
use Rattle.elf_model.specs.declared.constants.TheConstants.{SYM_SIZE, DT_SYMTAB, SHN_UNDEF, SHN_ABS, SHN_COMMON, STT_FUNC, STT_TLS, PF_X, MAX_ENTRIES}
use Rattle.elf_model.specs.declared.refusal.ElfKind.TheVariants as refusal
use Rattle.elf_model.specs.declared.object.Object.{Object}
use Rattle.elf_model.specs.declared.object.Place.{Place}
use Rattle.elf_model.specs.declared.object.Place.TheVariants.{Undefined, Absolute, Here, Common, Section, Dropped}
use Rattle.elf_model.specs.declared.object.Segment.{Segment}
use Rattle.elf_model.specs.declared.object.Symbol.{Symbol}
use Rattle.elf_model.specs.declared.table.DynEntry.{DynEntry}
use Rattle.elf_model.specs.declared.table.ProgramHeader.{ProgramHeader}
use Rattle.elf_model.specs.declared.table.SymbolEntry.{SymbolEntry}
use Rattle.elf_model.specs.Test.{refuses, only_where, of_some, first_failing}
use Rattle.elf_model.specs.Segments.{segment, loads, held_at, has_flag, is_in_memory, is_executable_at}
use Rattle.elf_model.specs.Places.{is_executable, is_executable_in, is_held_in}
use Rattle.elf_model.specs.Strings.{string_at}
use Rattle.elf_model.specs.Dynamic.{first_of}
use Rattle.elf_model.specs.Symbols as symbol
use Rattle.elf_model.specs.Symbols.{count_of, hash_tests, symbol_table_tests, count_tests, symbol_entry, symbol_entry_of, binding_of, type_of, visibility_of, is_defined_function, has_function_place, symbol_tests, all_symbol_tests, place_of, symbol_of, null_symbol, symbols_of}
use Rattle.elf_model.specs.Fields as field
use Rattle.elf_model.proofs.Passing.{both, below_all, where_true}
use Rattle.elf_write.specs.declared.limits.TheConstants.{MAX_FILE_BYTES}
use Rattle.elf_write.specs.Words.{symbol_row, table_bytes, zeros, aligned}
use Rattle.elf_write.specs.Strings as string
use Rattle.elf_write.specs.Strings.{name_bytes}
use Rattle.elf_write.specs.TableSegment.{index_of, symbol_rows, symbol_names, name_strings, soname_place, needed_place, layout_of, table_segment}
use Rattle.elf_write.specs.ObjectFile.{table_offset, object_file}
use Rattle.elf_write.specs.WritableObject.{IsWritableObject, IsSymbolWritable, is_object_place, is_function_placed}
use Rattle.write_laws.specs.ObjectReadBack.{FitsObjectFields}
use Rattle.write_laws.proofs.Holding.{Holds, front, behind, behind_at, whole}
use Rattle.write_laws.proofs.Listing.{Lists, Each, each_at, each_lists}
use Rattle.write_laws.proofs.Naming.{IsReadAs, name_read}
use Rattle.write_laws.proofs.Symbols.{IsSymbolFit, entry_held}
use Rattle.write_laws.proofs.SymbolTable.{read_all}
use Rattle.write_laws.proofs.TableParts.{tables_stand}
use Rattle.write_laws.proofs.ProgramTests.{segments_are}
use Rattle.write_laws.proofs.EntryValues.{symbols_value}
use Rattle.write_laws.proofs.ObjectStrings.{first_is, strings_read}
use Rattle.write_laws.proofs.ObjectCount.{held_in, count_is, symbol_count_is, hash_passes}

-- ---- places

place_read : (p : Place) → is_object_place p ≡ true → place_of (index_of p) ≡ p
place_read Undefined known = refl
place_read Absolute known = refl
place_read Here known = refl
place_read Common known = absurd (false≢true known)
place_read (Section i) known = absurd (false≢true known)
place_read Dropped known = absurd (false≢true known)

index_fits : (p : Place) → index_of p < 2 ^ 16
index_fits Undefined = omega arith
index_fits Absolute = omega arith
index_fits Here = omega arith
index_fits Common = omega arith
index_fits (Section i) = omega arith
index_fits Dropped = omega arith

not_common : (p : Place) → (index_of p == SHN_COMMON) ≡ false
not_common Undefined = refl
not_common Absolute = refl
not_common Here = refl
not_common Common = refl
not_common (Section i) = refl
not_common Dropped = refl

-- a function that is defined stands in a section, and in the memory of an executable segment
placed_function : (ss : List Segment) (s : Symbol) (p : Place) → is_function_placed ss s p ≡ true → not (index_of p == SHN_UNDEF) ≡ true → ((index_of p == SHN_ABS) ≡ false) × ((s.value % 4 == 0 && is_executable_in ss s.value) ≡ true)
placed_function ss s Undefined placed some = absurd (false≢true some)
placed_function ss s Absolute placed some = absurd (false≢true placed)
placed_function ss s Here placed some = (refl, placed)
placed_function ss s Common placed some = absurd (false≢true placed)
placed_function ss s (Section i) placed some = absurd (false≢true placed)
placed_function ss s Dropped placed some = absurd (false≢true placed)

next_le : (v n : ℕ) → nat_le (v + 1) n ≡ nat_lt v n
next_le v n =
    elim (cases_lt v n) [
      | inl lt ↦ le-leb (v + 1) n (omega (arith, lt)) ∙ sym (lt-ltb v n lt)
      | inr ge ↦ lt-leb (v + 1) n (omega (arith, ge)) ∙ sym (le-ltb v n ge)
    ]

-- the memory of a segment is that of its header
executable_same : (bytes : List ℕ) (hs : List ProgramHeader) (addr : ℕ) → is_executable_in (map (segment bytes) hs) addr ≡ is_executable_at hs addr
unfolding is_executable_at
executable_same bytes [] addr = refl
executable_same bytes (h ∷ hs) addr =
    ap (λ b. (has_flag h.flags PF_X && (nat_le h.vaddr addr && b)) || is_executable_in (map (segment bytes) hs) addr) (sym (next_le addr (h.vaddr + h.memsz)))
    ∙ ap (λ b. (has_flag h.flags PF_X && is_in_memory h addr 1) || b) (executable_same bytes hs addr)

-- ---- a symbol's entry

-- an entry is that of a symbol, with its name among the names
pub record IsObjectEntry (ss : List Segment) (names : List ℕ) (s : Symbol) (e : SymbolEntry) : Type 0 where
  pub named : IsReadAs names e.name s.name
  pub value : e.value ≡ s.value
  pub size : e.size ≡ s.size
  pub binding : binding_of e ≡ s.binding
  pub kind : type_of e ≡ s.kind
  pub visibility : visibility_of e ≡ s.visibility
  pub section : e.section ≡ index_of s.place
  pub writable : IsSymbolWritable ss s

symbol_is : (ss : List Segment) (names : List ℕ) (s : Symbol) (e : SymbolEntry) → IsObjectEntry ss names s e → symbol_of names e ≡ s
unfolding symbol_of
symbol_is ss names s e is =
    let place : place_of e.section ≡ s.place = ap place_of is.section ∙ place_read s.place is.writable.placed in
    rw (is.named.is_name, is.value, is.size, is.binding, is.kind, is.visibility, place) refl

function_passes : (ss : List Segment) (hs : List ProgramHeader) (names : List ℕ) (s : Symbol) (e : SymbolEntry) → IsObjectEntry ss names s e → ((v : ℕ) → is_executable_in ss v ≡ true → is_executable_at hs v ≡ true) → is_defined_function e ≡ true
    → ((e.value % 2 == 1) ≡ false) × (has_function_place hs e ≡ true)
unfolding has_function_place
function_passes ss hs names s e is executable defined =
    let parts = and_parts (type_of e == STT_FUNC) (not (e.section == SHN_UNDEF)) defined in
    let is_function : s.kind ≡ STT_FUNC = sym is.kind ∙ eqb-true (type_of e) STT_FUNC parts.0 in
    let some : not (index_of s.place == SHN_UNDEF) ≡ true = ap (λ n. not (n == SHN_UNDEF)) (sym is.section) ∙ parts.1 in
    let placed = placed_function ss s s.place (is.writable.function is_function) some in
    let two = and_parts (s.value % 4 == 0) (is_executable_in ss s.value) placed.1 in
    let four = eqb-true (s.value % 4) 0 two.0 in
    let even : (s.value % 2 == 1) ≡ false = ne_eqb (s.value % 2) 1 (λ e. omega (arith, e, four)) in
    let section : not (e.section == SHN_ABS) ≡ true = ap (λ n. not (n == SHN_ABS)) is.section ∙ ap not placed.0 in
    let place : (e.value % 4 == 0 && is_executable_at hs e.value) ≡ true = ap (λ v. v % 4 == 0 && is_executable_at hs v) is.value ∙ and_from _ _ two.0 (executable s.value two.1) in
    (ap (λ v. v % 2 == 1) is.value ∙ even, and_from _ _ section place)

symbol_passes : (ss : List Segment) (hs : List ProgramHeader) (names : List ℕ) (s : Symbol) (e : SymbolEntry) → IsObjectEntry ss names s e → ((v : ℕ) → is_executable_in ss v ≡ true → is_executable_at hs v ≡ true)
    → first_failing (symbol_tests hs names e) ≡ None
unfolding symbol_tests
symbol_passes ss hs names s e is executable =
    let tls : (type_of e == STT_TLS) ≡ false = ap (λ n. n == STT_TLS) is.kind ∙ ne_eqb s.kind STT_TLS is.writable.no_tls in
    let common : (e.section == SHN_COMMON) ≡ false = ap (λ n. n == SHN_COMMON) is.section ∙ not_common s.place in
    let last = refuses refusal.Thumb e.offset (e.value % 2 == 1) ∷ refuses refusal.FunctionPlace e.offset (not (has_function_place hs e)) ∷ [] in
    both (refuses refusal.NameRange e.offset (is_none (string_at names e.name)) ∷ refuses refusal.Tls e.offset (type_of e == STT_TLS) ∷ refuses refusal.Table e.offset (e.section == SHN_COMMON) ∷ []) (only_where (is_defined_function e) last)
    (rw (is.named.readable, tls, common) refl)
    (where_true (is_defined_function e) last (λ defined. let p = function_passes ss hs names s e is executable defined in rw (p.0, p.1) refl))

entry_of : (bytes names : List ℕ) (ss : List Segment) (at name : ℕ) (s : Symbol) → length names < 2 ^ 32 → Holds names 0 (0 ∷ []) → Holds names name (name_bytes s.name)
    → Holds bytes at (word_bytes (symbol_row (string.place_of name s.name) (index_of s.place) s)) → IsSymbolWritable ss s → s.value < 2 ^ 32 → s.size < 2 ^ 32 → IsObjectEntry ss names s (symbol_entry bytes at)
entry_of bytes names ss at name s short first named held writable value size =
    let inside = named.inside in
    let place = name_fits name (length names) s.name (omega (arith, inside)) in
    let kind = writable.small_kind in
    let vis = writable.small_visibility in
    let fit : IsSymbolFit s = record { value = value; size = size; binding = writable.small_binding; kind = kind; visibility = vis } in
    let e = entry_held bytes at (string.place_of name s.name) (index_of s.place) s held fit (omega (arith, place, short)) (index_fits s.place) in
    subst (IsObjectEntry ss names s) (sym e) (record {
      named = name_read names name s.name first named writable.named;
      value = refl;
      size = refl;
      binding = omega (arith, kind);
      kind = omega (arith, kind);
      visibility = omega (arith, vis);
      section = refl;
      writable = writable;
    })
  where
    name_fits : (at n : ℕ) (name : Option (List ℕ)) → at ≤ n → string.place_of at name ≤ n
    name_fits at n None le = omega arith
    name_fits at n (Some x) le = le

entries : (bytes names : List ℕ) (all : List Segment) (from k name : ℕ) (ss : List Symbol) → length names < 2 ^ 32 → Holds names 0 (0 ∷ []) → Holds names name (flat_map name_bytes (map (λ s. s.name) ss))
    → Holds bytes (from + SYM_SIZE * k) (table_bytes (symbol_rows name ss)) → All (IsSymbolWritable all) ss → All (λ s. s.value < 2 ^ 32) ss → All (λ s. s.size < 2 ^ 32) ss
    → Each (λ k s. IsObjectEntry all names s (symbol_entry_of bytes from k)) k ss
entries bytes names all from k name [] short first named held writable values sizes = tt
entries bytes names all from k name (s ∷ ss) short first named held writable values sizes =
    let row = word_bytes (symbol_row (string.place_of name s.name) (index_of s.place) s) in
    let rest = table_bytes (symbol_rows (string.behind name s.name) ss) in
    let more = flat_map name_bytes (map (λ s. s.name) ss) in
    let next : (from + SYM_SIZE * k) + 16 ≡ from + SYM_SIZE * (k + 1) = omega arith in (
      entry_of bytes names all (from + SYM_SIZE * k) name s short first (front names name (name_bytes s.name) more named) (front bytes (from + SYM_SIZE * k) row rest held)
          (All-head (IsSymbolWritable all) s ss writable) (All-head (λ (s : Symbol). s.value < 2 ^ 32) s ss values) (All-head (λ (s : Symbol). s.size < 2 ^ 32) s ss sizes),
      entries bytes names all from (k + 1) (string.behind name s.name) ss short first (behind names name (name_bytes s.name) more named) (behind_at bytes (from + SYM_SIZE * k) (from + SYM_SIZE * (k + 1)) row rest held next)
          (All-tail (IsSymbolWritable all) s ss writable) (All-tail (λ (s : Symbol). s.value < 2 ^ 32) s ss values) (All-tail (λ (s : Symbol). s.size < 2 ^ 32) s ss sizes),
    )

-- ---- the names of an object

module _ (o : Object) where
  pub names_first : Holds (name_strings o) 0 (0 ∷ [])
  names_first = front (name_strings o) 0 (0 ∷ []) (flat_map name_bytes (symbol_names o ++ (o.soname ∷ map Some o.needed))) (whole (name_strings o))

  names_rest : Holds (name_strings o) 1 (flat_map name_bytes (symbol_names o) ++ flat_map name_bytes (o.soname ∷ map Some o.needed))
  names_rest =
      subst (Holds (name_strings o) 1) (flat_map-append name_bytes (symbol_names o) (o.soname ∷ map Some o.needed))
      (behind (name_strings o) 0 (0 ∷ []) (flat_map name_bytes (symbol_names o ++ (o.soname ∷ map Some o.needed))) (whole (name_strings o)))

  symbol_names_stand : Holds (name_strings o) 1 (flat_map name_bytes (symbol_names o))
  symbol_names_stand = front (name_strings o) 1 (flat_map name_bytes (symbol_names o)) (flat_map name_bytes (o.soname ∷ map Some o.needed)) names_rest

  other_names : Holds (name_strings o) (soname_place o) (name_bytes o.soname ++ flat_map name_bytes (map Some o.needed))
  other_names =
      behind_at (name_strings o) 1 (soname_place o) (flat_map name_bytes (symbol_names o)) (flat_map name_bytes (o.soname ∷ map Some o.needed)) names_rest (omega arith)

  pub soname_stands : Holds (name_strings o) (soname_place o) (name_bytes o.soname)
  soname_stands = front (name_strings o) (soname_place o) (name_bytes o.soname) (flat_map name_bytes (map Some o.needed)) other_names

  pub needed_stand : Holds (name_strings o) (needed_place o) (flat_map name_bytes (map Some o.needed))
  needed_stand = behind (name_strings o) (soname_place o) (name_bytes o.soname) (flat_map name_bytes (map Some o.needed)) other_names

-- ---- the symbols of an object

module _ (o : Object) (w : IsWritableObject o) (f : FitsObjectFields o) (short : length (object_file o) ≤ MAX_FILE_BYTES) where
  executable : (v : ℕ) → is_executable_in o.segments v ≡ true → is_executable_at (loads (object_file o)) v ≡ true
  executable v h =
      sym (executable_same (object_file o) (loads (object_file o)) v)
      ∙ ap (λ ss. is_executable_in ss v) (segments_are o w f short)
      ∙ list_any-append (λ s. is_executable s && is_held_in s v) o.segments (table_segment o ∷ [])
      ∙ ap (λ b. b || list_any (λ s. is_executable s && is_held_in s v) (table_segment o ∷ [])) h

  names_short : length (name_strings o) < 2 ^ 32
  names_short =
      let inside = (front (object_file o) (table_offset o (layout_of o).strings) (name_strings o) (zeros (aligned 4 (length (name_strings o)) - length (name_strings o))) (tables_stand o).strings).inside in
      omega (arith, inside, short)

  IsRead : ℕ → Symbol → Type 0
  IsRead k s = IsObjectEntry o.segments (name_strings o) s (symbol_entry_of (object_file o) (table_offset o (layout_of o).symbols) k)

  all_entries : Each IsRead 0 o.symbols
  unfolding IsRead
  all_entries =
      let from = table_offset o (layout_of o).symbols in
      let e : from ≡ from + SYM_SIZE * 0 = omega arith in
      entries (object_file o) (name_strings o) o.segments from 0 1 o.symbols names_short (names_first o) (symbol_names_stand o)
      (subst (λ n. Holds (object_file o) n (table_bytes (symbol_rows 1 o.symbols))) e (tables_stand o).symbols) w.writable_symbols f.values f.sizes

  -- where there are any
  offset_is : 0 < length o.symbols → field.symbols_offset (object_file o) ≡ table_offset o (layout_of o).symbols
  unfolding field.symbols_offset symbol.symbols_offset
  offset_is some =
      let file = object_file o in
      let one = first_is o w f short DT_SYMTAB (layout_of o).symbols (symbols_value o) in
      ap (λ n. option_map_or (λ (table : DynEntry). unwrap_or (held_at (loads file) table.value (SYM_SIZE * n)) 0) (first_of DT_SYMTAB (field.entries file)) 0) (symbol_count_is o w f short)
      ∙ ap (λ p. option_map_or (λ (table : DynEntry). unwrap_or (held_at (loads file) table.value (SYM_SIZE * length o.symbols)) 0) p 0) one.1
      ∙ ap (λ v. unwrap_or (held_at (loads file) v (SYM_SIZE * length o.symbols)) 0) one.2
      ∙ ap (λ h. unwrap_or h 0) (held_in o w f short (layout_of o).symbols (SYM_SIZE * length o.symbols) (omega arith) (omega arith) (omega (arith, some)))

  read_or_none : (read : ℕ → Symbol) (ss : List Symbol) → All (λ s. s ≡ null_symbol) (take 1 ss) → (0 < length ss → Lists read 0 ss) → cond (length ss == 0) [] (null_symbol ∷ map read (range_with_len 1 (length ss - 1))) ≡ ss
  read_or_none read [] null l = refl
  read_or_none read (s ∷ ss) null l = read_all read (s ∷ ss) (omega arith) null (l (omega arith))

  pub symbols_are : field.symbols (object_file o) ≡ o.symbols
  unfolding field.symbols symbols_of IsRead
  symbols_are =
      let file = object_file o in
      let read = λ (i : ℕ). symbol_of (field.strings file) (symbol_entry_of file (field.symbols_offset file) i) in
      ap (λ n. cond (n == 0) [] (null_symbol ∷ map read (range_with_len 1 (n - 1)))) (symbol_count_is o w f short)
      ∙ read_or_none read o.symbols w.null_first (λ some. each_lists IsRead read 0 o.symbols (λ k s is.
      ap (λ names. symbol_of names (symbol_entry_of file (field.symbols_offset file) k)) (strings_read o w f short)
      ∙ ap (λ n. symbol_of (name_strings o) (symbol_entry_of file n k)) (offset_is some)
      ∙ symbol_is o.segments (name_strings o) s (symbol_entry_of file (table_offset o (layout_of o).symbols) k) is) all_entries)

  -- ---- tests

  symbol_holds : (k : ℕ) → k < length o.symbols - 1 → first_failing (symbol_tests (loads (object_file o)) (field.strings (object_file o)) (symbol_entry_of (object_file o) (field.symbols_offset (object_file o)) (k + 1))) ≡ None
  unfolding IsRead
  symbol_holds k lt =
      let file = object_file o in
      let within : k + 1 < length o.symbols = omega (arith, lt) in
      let e : 0 + (k + 1) ≡ k + 1 = omega arith in
      let s = get_or o.symbols (k + 1) null_symbol in
      let at = table_offset o (layout_of o).symbols in
      let is : IsObjectEntry o.segments (name_strings o) s (symbol_entry_of file at (k + 1)) = subst (λ n. IsRead n s) e (each_at IsRead 0 o.symbols (k + 1) null_symbol all_entries within) in
      ap (λ names. first_failing (symbol_tests (loads file) names (symbol_entry_of file (field.symbols_offset file) (k + 1)))) (strings_read o w f short)
      ∙ ap (λ n. first_failing (symbol_tests (loads file) (name_strings o) (symbol_entry_of file n (k + 1)))) (offset_is (omega (arith, lt)))
      ∙ symbol_passes o.segments (loads file) (name_strings o) s (symbol_entry_of file at (k + 1)) is executable

  pub symbols_pass : first_failing (all_symbol_tests (object_file o) (loads (object_file o)) (field.strings (object_file o)) (field.symbols_offset (object_file o)) (field.symbol_count (object_file o))) ≡ None
  unfolding all_symbol_tests
  symbols_pass =
      let file = object_file o in
      let tests = λ (k : ℕ). symbol_tests (loads file) (field.strings file) (symbol_entry_of file (field.symbols_offset file) (k + 1)) in
      below_all tests (field.symbol_count file - 1) (λ k lt. symbol_holds k (let c = symbol_count_is o w f short in omega (arith, c, lt)))

  table_is_held : is_none (held_at (loads (object_file o)) (layout_of o).symbols (SYM_SIZE * length o.symbols)) ≡ false
  unfolding held_at
  table_is_held =
      let file = object_file o in
      elim (cases_lt 0 (length o.symbols)) [
        | inl some ↦ ap is_none (held_in o w f short (layout_of o).symbols (SYM_SIZE * length o.symbols) (omega arith) (omega arith) (omega (arith, some)))
        | inr none ↦ let e : SYM_SIZE * length o.symbols ≡ 0 = omega (arith, none) in ap (λ n. is_none (held_at (loads file) (layout_of o).symbols n)) e
      ]

  table_passes : (dynamic : ℕ) (table : DynEntry) → table.value ≡ (layout_of o).symbols → first_failing (symbol_table_tests (object_file o) (loads (object_file o)) (field.entries (object_file o)) dynamic table) ≡ None
  unfolding symbol_table_tests
  table_passes dynamic table is =
      let file = object_file o in
      let hs = loads file in
      let es = field.entries file in
      let rest = λ (c : Option ℕ). refuses refusal.NoCount dynamic (is_none c) ∷ refuses refusal.TooMany table.offset (nat_lt MAX_ENTRIES (unwrap_or c 0)) ∷ refuses refusal.Table table.offset (is_none (held_at hs table.value (SYM_SIZE * unwrap_or c 0))) ∷ [] in
      let many : nat_lt MAX_ENTRIES (length o.symbols) ≡ false = le-ltb _ _ w.few_symbols in
      let held : is_none (held_at hs table.value (SYM_SIZE * length o.symbols)) ≡ false = ap (λ v. is_none (held_at hs v (SYM_SIZE * length o.symbols))) is ∙ table_is_held in
      let last : first_failing (rest (Some (length o.symbols))) ≡ None = rw (many, held) refl in
      both (hash_tests file hs es) (rest (count_of file hs es table.value)) (hash_passes o w f short) (ap (λ c. first_failing (rest c)) (count_is o w f short table.value) ∙ last)

  pub count_passes : (dynamic : ℕ) → first_failing (count_tests (object_file o) (loads (object_file o)) (field.entries (object_file o)) dynamic) ≡ None
  unfolding count_tests
  count_passes dynamic =
      let file = object_file o in
      let one = first_is o w f short DT_SYMTAB (layout_of o).symbols (symbols_value o) in
      ap (λ p. first_failing (of_some p (symbol_table_tests file (loads file) (field.entries file) dynamic))) one.1 ∙ table_passes dynamic one.0 one.2
