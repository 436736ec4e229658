-- Symbols: that each is read from its row, and passes its tests.
use Rattle.std.proofs.Common.{◌≡◌, ◌≢◌, ℕ, ◌+◌, ◌*◌, ◌%◌, ◌^◌, ◌<◌, ◌≤◌, Bool, true, false, not, ◌&&◌, ◌||◌, List, [], ◌∷◌, length, get_or, map, All, refl, sym, ap, ◌∙◌, subst, arith, Option, Some, None}
use Rattle.std.specs.Prelude.{slice_index, nat_lt, nat_le, ◌==◌, is_none}
use Rattle.std.specs.List.{flat_map}
use Rattle.std.proofs.lemmas.Bool.{lt-ltb, ltb-true, le-leb, eq-eqb, ne_eqb, and_from}
use Rattle.std.proofs.lemmas.List.Elements.{All-head, All-tail}
use Rattle.byteorder.specs.Endian.{little_bytes}
use Rattle.fd_base.specs.Words.{word_in, half_in, word_bytes}
use Rattle.elf_model.specs.declared.constants.TheConstants.{SYM_SIZE, SHN_UNDEF, SHN_ABS, SHN_COMMON, STB_LOCAL, STB_WEAK, STT_FUNC, STT_TLS}
use Rattle.elf_model.specs.declared.object.Place.{Place}
use Rattle.elf_model.specs.declared.object.Place.TheVariants.{Undefined, Absolute, Here, Common, Section, Dropped}
use Rattle.elf_model.specs.declared.object.Symbol.{Symbol}
use Rattle.elf_model.specs.declared.table.SymbolEntry.{SymbolEntry}
use Rattle.elf_model.specs.Test.{first_failing}
use Rattle.elf_model.specs.Header.{e_shnum}
use Rattle.elf_model.specs.Strings.{string_at, name_at}
use Rattle.elf_model.specs.Symbols.{symbol_entry, symbol_entry_of, binding_of, type_of, visibility_of, symbol_of}
use Rattle.elf_model.specs.RelSections.{is_kept_at, kept_number}
use Rattle.elf_model.specs.RelSymbols as symbol
use Rattle.elf_model.specs.RelSymbols.{has_name, has_place, symbol_tests, rel_symbol_of}
use Rattle.elf_model.specs.RelSound.{IsSymbolSound, is_place_among, is_definition}
use Rattle.elf_write.specs.Words.{halves, symbol_row, table_bytes}
use Rattle.elf_write.specs.Strings as string
use Rattle.elf_write.specs.Strings.{name_bytes}
use Rattle.elf_write.specs.RelFile.{index_of, symbol_rows}
use Rattle.write_laws.proofs.Holding.{Holds, front, behind, behind_at, byte_held, words_held, row_held, halves_held}
use Rattle.write_laws.proofs.Listing.{Each}
use Rattle.write_laws.proofs.Naming.{IsReadAs, name_read}

-- ---- rows

pub record IsSymbolFit (s : Symbol) : Type 0 where
  pub value : s.value < 2 ^ 32
  pub size : s.size < 2 ^ 32
  pub binding : s.binding < 16
  pub kind : s.kind < 16
  pub visibility : s.visibility < 4

pub entry_held : (bytes : List ℕ) (at name index : ℕ) (s : Symbol) → Holds bytes at (word_bytes (symbol_row name index s)) → IsSymbolFit s → name < 2 ^ 32 → index < 2 ^ 16
    → symbol_entry bytes at ≡ record { offset = at; name = name; value = s.value; size = s.size; info = 16 * s.binding + s.kind; other = s.visibility; section = index }
unfolding symbol_entry
entry_held bytes at name index s h f n i =
    let b = f.binding in
    let k = f.kind in
    let v = f.visibility in
    let row = symbol_row name index s in
    let low = 16 * s.binding + s.kind + 256 * s.visibility in
    let last : Holds bytes (at + 12) (little_bytes 4 (halves low index)) = row_held bytes at row 3 h (omega arith) in
    let w0 : word_in bytes (at + 0) ≡ name = words_held bytes at row 0 h (omega arith) n in
    let w1 : word_in bytes (at + 4) ≡ s.value = words_held bytes at row 1 h (omega arith) f.value in
    let w2 : word_in bytes (at + 8) ≡ s.size = words_held bytes at row 2 h (omega arith) f.size in
    let first : slice_index bytes ((at + 12) + 0) ≡ get_or (little_bytes 4 (halves low index)) 0 0 = byte_held bytes (at + 12) 0 (little_bytes 4 (halves low index)) last (omega arith) in
    let second : slice_index bytes ((at + 12) + 1) ≡ get_or (little_bytes 4 (halves low index)) 1 0 = byte_held bytes (at + 12) 1 (little_bytes 4 (halves low index)) last (omega arith) in
    let e0 : at + 12 ≡ (at + 12) + 0 = omega arith in
    let e1 : at + 13 ≡ (at + 12) + 1 = omega arith in
    let e2 : at + 14 ≡ (at + 12) + 2 = omega arith in
    let info : slice_index bytes (at + 12) ≡ 16 * s.binding + s.kind = ap (slice_index bytes) e0 ∙ first ∙ (let e : get_or (little_bytes 4 (halves low index)) 0 0 ≡ 16 * s.binding + s.kind = omega (arith, b, k, v) in e) in
    let other : slice_index bytes (at + 13) ≡ s.visibility = ap (slice_index bytes) e1 ∙ second ∙ (let e : get_or (little_bytes 4 (halves low index)) 1 0 ≡ s.visibility = omega (arith, b, k, v) in e) in
    let section : half_in bytes (at + 14) ≡ index = ap (half_in bytes) e2 ∙ (halves_held bytes (at + 12) low index last (omega (arith, b, k, v)) i).1 in
    rw (w0, w1, w2, info, other, section) refl

-- ---- places

-- how places are read in a file of so many kept sections
pub record ReadsPlaces (bytes : List ℕ) (sections : ℕ) : Type 0 where
  pub few : sections + 2 < SHN_ABS
  pub more : sections + 1 < e_shnum bytes
  pub kept : (i : ℕ) → i < sections → is_kept_at bytes (i + 1) ≡ true
  pub number : (i : ℕ) → i < sections → kept_number bytes (i + 1) ≡ i

module _ (bytes : List ℕ) (sections : ℕ) (reads : ReadsPlaces bytes sections) where
  place_read : (p : Place) → is_place_among sections p ≡ true → p ≢ Dropped → symbol.place_of bytes (index_of p) ≡ p
  unfolding symbol.place_of
  place_read Undefined known kept = refl
  place_read Absolute known kept = refl
  place_read Here known kept = absurd cc
  place_read Common known kept = refl
  place_read (Section i) known kept =
      let lt = ltb-true i sections known in
      let few = reads.few in
      rw (ne_eqb (i + 1) SHN_UNDEF (λ e. omega (arith, e)), ne_eqb (i + 1) SHN_ABS (λ e. omega (arith, e, lt, few)), ne_eqb (i + 1) SHN_COMMON (λ e. omega (arith, e, lt, few)), reads.kept i lt, reads.number i lt) refl
  place_read Dropped known kept = absurd (kept refl)

  index_fits : (p : Place) → is_place_among sections p ≡ true → index_of p < 2 ^ 16
  index_fits Undefined known = omega arith
  index_fits Absolute known = omega arith
  index_fits Here known = omega arith
  index_fits Common known = omega arith
  index_fits (Section i) known = let lt = ltb-true i sections known in let few = reads.few in omega (arith, lt, few)
  index_fits Dropped known = omega arith

  place_there : (p : Place) → is_place_among sections p ≡ true → (nat_lt (index_of p) (e_shnum bytes) || (index_of p == SHN_ABS || index_of p == SHN_COMMON)) ≡ true
  place_there Undefined known = let m = reads.more in rw (lt-ltb 0 (e_shnum bytes) (omega (arith, m))) refl
  place_there Absolute known = by_first (nat_lt SHN_ABS (e_shnum bytes))
    where
      by_first : (b : Bool) → (b || true) ≡ true
      by_first true = refl
      by_first false = refl
  place_there Here known = absurd cc
  place_there Common known = by_first (nat_lt SHN_COMMON (e_shnum bytes))
    where
      by_first : (b : Bool) → (b || true) ≡ true
      by_first true = refl
      by_first false = refl
  place_there (Section i) known = let lt = ltb-true i sections known in let m = reads.more in rw (lt-ltb (i + 1) (e_shnum bytes) (omega (arith, lt, m))) refl
  place_there Dropped known = let m = reads.more in rw (lt-ltb 0 (e_shnum bytes) (omega (arith, m))) refl

  thumb : (p : Place) (f odd : Bool) → is_place_among sections p ≡ true → (f && (is_definition p && odd)) ≡ false → ((f && not (index_of p == SHN_UNDEF)) && (not (index_of p == SHN_COMMON) && odd)) ≡ false
  thumb p false odd known h = refl
  thumb Undefined true odd known h = refl
  thumb Absolute true odd known h = h
  thumb Here true odd known h = refl
  thumb Common true odd known h = refl
  thumb (Section i) true odd known h =
      let lt = ltb-true i sections known in
      let few = reads.few in
      rw (ne_eqb (i + 1) SHN_UNDEF (λ e. omega (arith, e)), ne_eqb (i + 1) SHN_COMMON (λ e. omega (arith, e, lt, few))) h
  thumb Dropped true odd known h = refl

  -- ---- a symbol's entry

  -- an entry is that of a symbol, with its name among the names
  pub record IsEntryOf (names : List ℕ) (s : Symbol) (e : SymbolEntry) : Type 0 where
    pub named : IsReadAs names e.name s.name
    pub value : e.value ≡ s.value
    pub size : e.size ≡ s.size
    pub binding : binding_of e ≡ s.binding
    pub kind : type_of e ≡ s.kind
    pub visibility : visibility_of e ≡ s.visibility
    pub section : e.section ≡ index_of s.place
    pub sound : IsSymbolSound sections s
    pub placed : s.place ≢ Dropped

  nameless_local : (binding : ℕ) (name : Option (List ℕ)) → (name ≡ None → binding ≡ STB_LOCAL) → (binding == STB_LOCAL || not (is_none name)) ≡ true
  nameless_local binding None local = rw (eq-eqb binding STB_LOCAL (local refl)) refl
  nameless_local binding (Some x) local = by_first (binding == STB_LOCAL)
    where
      by_first : (b : Bool) → (b || true) ≡ true
      by_first true = refl
      by_first false = refl

  pub symbol_passes : (names : List ℕ) (s : Symbol) (e : SymbolEntry) → IsEntryOf names s e → first_failing (symbol_tests bytes names e) ≡ None
  unfolding symbol_tests has_name has_place
  symbol_passes names s e is =
      let sound = is.sound in
      let named : (not (is_none (string_at names e.name)) && (binding_of e == STB_LOCAL || not (is_none (name_at names e.name)))) ≡ true
      = and_from _ _ (ap not is.named.readable)
      (ap (λ n. n == STB_LOCAL || not (is_none (name_at names e.name))) is.binding ∙ ap (λ n. s.binding == STB_LOCAL || not (is_none n)) is.named.is_name ∙ nameless_local s.binding s.name sound.nameless) in
      let tls : (type_of e == STT_TLS) ≡ false = ap (λ n. n == STT_TLS) is.kind ∙ ne_eqb s.kind STT_TLS sound.no_tls in
      let table : (nat_le (binding_of e) STB_WEAK && (nat_lt e.section (e_shnum bytes) || (e.section == SHN_ABS || e.section == SHN_COMMON))) ≡ true
      = and_from _ _ (ap (λ n. nat_le n STB_WEAK) is.binding ∙ le-leb s.binding STB_WEAK sound.known_binding)
      (ap (λ n. nat_lt n (e_shnum bytes) || (n == SHN_ABS || n == SHN_COMMON)) is.section ∙ place_there s.place sound.placed) in
      let odd : ((type_of e == STT_FUNC && not (e.section == SHN_UNDEF)) && (not (e.section == SHN_COMMON) && e.value % 2 == 1)) ≡ false
      = ap (λ n. (n == STT_FUNC && not (e.section == SHN_UNDEF)) && (not (e.section == SHN_COMMON) && e.value % 2 == 1)) is.kind
      ∙ ap (λ n. (s.kind == STT_FUNC && not (n == SHN_UNDEF)) && (not (n == SHN_COMMON) && e.value % 2 == 1)) is.section
      ∙ ap (λ n. (s.kind == STT_FUNC && not (index_of s.place == SHN_UNDEF)) && (not (index_of s.place == SHN_COMMON) && n % 2 == 1)) is.value
      ∙ thumb s.place (s.kind == STT_FUNC) (s.value % 2 == 1) sound.placed sound.no_thumb in
      rw (named, tls, table, odd) refl

  pub symbol_is : (s : Symbol) (e : SymbolEntry) → IsEntryOf (symbol.strings bytes) s e → rel_symbol_of bytes e ≡ s
  unfolding symbol_of
  symbol_is s e is =
      let place : symbol.place_of bytes e.section ≡ s.place = ap (symbol.place_of bytes) is.section ∙ place_read s.place is.sound.placed is.placed in
      rw (is.named.is_name, is.value, is.size, is.binding, is.kind, is.visibility, place) refl

  -- ---- entry by entry

  name_fits : (at n : ℕ) (name : Option (List ℕ)) → at ≤ n → string.place_of at name ≤ n
  name_fits at n None le = omega arith
  name_fits at n (Some x) le = le

  entry_of : (names : List ℕ) (at name : ℕ) (s : Symbol) → length names < 2 ^ 32 → Holds names 0 (0 ∷ []) → Holds names name (name_bytes s.name) → Holds bytes at (word_bytes (symbol_row (string.place_of name s.name) (index_of s.place) s))
      → IsSymbolSound sections s → s.place ≢ Dropped → s.value < 2 ^ 32 → s.size < 2 ^ 32 → IsEntryOf names s (symbol_entry bytes at)
  entry_of names at name s short first named held sound placed value size =
      let inside = named.inside in
      let within : name ≤ length names = omega (arith, inside) in
      let place = name_fits name (length names) s.name within in
      let kind = sound.small_kind in
      let bind = sound.known_binding in
      let vis = sound.known_visibility in
      let fit : IsSymbolFit s = record { value = value; size = size; binding = omega (arith, bind); kind = kind; visibility = omega (arith, vis) } in
      let e = entry_held bytes at (string.place_of name s.name) (index_of s.place) s held fit (omega (arith, place, short)) (index_fits s.place sound.placed) in
      subst (IsEntryOf names s) (sym e) (record {
        named = name_read names name s.name first named sound.named;
        value = refl;
        size = refl;
        binding = omega (arith, kind);
        kind = omega (arith, kind);
        visibility = omega (arith, vis);
        section = refl;
        sound = sound;
        placed = placed;
      })

  pub entries : (names : List ℕ) (from k name : ℕ) (ss : List Symbol) → length names < 2 ^ 32 → Holds names 0 (0 ∷ []) → Holds names name (flat_map name_bytes (map (λ s. s.name) ss)) → Holds bytes (from + SYM_SIZE * k) (table_bytes (symbol_rows name ss))
      → All (IsSymbolSound sections) ss → All (λ s. s.place ≢ Dropped) ss → All (λ s. s.value < 2 ^ 32) ss → All (λ s. s.size < 2 ^ 32) ss
      → Each (λ k s. IsEntryOf names s (symbol_entry_of bytes from k)) k ss
  entries names from k name [] short first named held sound placed values sizes = tt
  entries names from k name (s ∷ ss) short first named held sound placed values sizes =
      let row = word_bytes (symbol_row (string.place_of name s.name) (index_of s.place) s) in
      let rest = table_bytes (symbol_rows (string.behind name s.name) ss) in
      let more = flat_map name_bytes (map (λ s. s.name) ss) in
      let next : (from + SYM_SIZE * k) + 16 ≡ from + SYM_SIZE * (k + 1) = omega arith in (
        entry_of names (from + SYM_SIZE * k) name s short first (front names name (name_bytes s.name) more named) (front bytes (from + SYM_SIZE * k) row rest held)
            (All-head (IsSymbolSound sections) s ss sound) (All-head (λ (s : Symbol). s.place ≢ Dropped) s ss placed) (All-head (λ (s : Symbol). s.value < 2 ^ 32) s ss values) (All-head (λ (s : Symbol). s.size < 2 ^ 32) s ss sizes),
        entries names from (k + 1) (string.behind name s.name) ss short first (behind names name (name_bytes s.name) more named) (behind_at bytes (from + SYM_SIZE * k) (from + SYM_SIZE * (k + 1)) row rest held next)
            (All-tail (IsSymbolSound sections) s ss sound) (All-tail (λ (s : Symbol). s.place ≢ Dropped) s ss placed) (All-tail (λ (s : Symbol). s.value < 2 ^ 32) s ss values) (All-tail (λ (s : Symbol). s.size < 2 ^ 32) s ss sizes),
      )
