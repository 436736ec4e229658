-- Every accepted relocatable file is sound.
use Rattle.std.proofs.Common.{◌≡◌, ◌≢◌, ℕ, zero, suc, ◌+◌, ◌-◌, ◌/◌, ◌%◌, ◌<◌, ◌≤◌, Bool, true, false, not, cond, ◌&&◌, ◌||◌, ◌==◌, nat_lt, nat_le, List, [], ◌∷◌, ◌++◌, length, map, take, drop, Option, Some, None, refl, sym, ap, subst, ◌∙◌, inl, inr, arith, All, eq-eqb, add-zero}
use Rattle.std.specs.Prelude.{Contains, filter, IfSome, is_none, slice_get, slice_range}
use Rattle.std.specs.Option.{option_map_or}
use Rattle.std.specs.List.{range_with_len, flat_map}
use Rattle.std.proofs.lemmas.List.{length-map, length-take-le, length-drop}
use Rattle.std.proofs.lemmas.List.Elements.{All-nil, All-cons}
use Rattle.std.proofs.lemmas.List.FromFn.{length-range_with_len, length-map-range_with_len, get_or-range_with_len}
use Rattle.std.proofs.lemmas.Bool.{and_parts, or_parts, or_cases, ltb-true, ltb-false, leb-true, eqb-true, not-false, not-true, lt-ltb, eqb-false, false≢true}
use Rattle.fd_base.proofs.Members.{all_contained, in_filter, in_map, in_flat_map}
use Rattle.fd_base.proofs.Options.{is_none_of}
use Rattle.elf_model.specs.declared.constants.TheConstants as number
use Rattle.elf_model.specs.declared.refusal.ElfKind.TheVariants as kind
use Rattle.elf_model.specs.declared.table.SectionHeader.{SectionHeader}
use Rattle.elf_model.specs.declared.table.SymbolEntry.{SymbolEntry}
use Rattle.elf_model.specs.declared.object.Place.TheVariants.{Undefined, Absolute, Common, Section, Dropped}
use Rattle.elf_model.specs.declared.object.Symbol.{Symbol}
use Rattle.elf_model.specs.declared.relocatable.RelObject.{RelObject}
use Rattle.elf_model.specs.Test.{refuses, only_where, of_some, first_failing, each_below}
use Rattle.elf_model.specs.Header.{e_shnum, passes_end, is_one_of, file_tests}
use Rattle.elf_model.specs.Segments.{has_flag}
use Rattle.elf_model.specs.Sections.{section_offset, section_header, section_headers, section_names}
use Rattle.elf_model.specs.Strings.{string_at, name_at}
use Rattle.elf_model.specs.Symbols.{symbol_entry_of, binding_of, type_of, is_defined_function, symbol_of, null_symbol}
use Rattle.elf_model.specs.RelSections as section
use Rattle.elf_model.specs.RelSections.{is_kept, is_kept_at, is_nobits, is_section_align, is_section_range, kept_number, kept_below, section_headers_below, kept_tests, section_tests, all_section_tests, section_bytes, bytes_so_far, needed_table_tests}
use Rattle.elf_model.specs.RelSymbols as symbol
use Rattle.elf_model.specs.RelSymbols.{symbol_count, symbols_offset, strings, symbol_section, symbol_section_tests, symbol_table_tests, symbol_tests, all_symbol_tests, has_name, has_place, place_of, rel_symbol_of, symbols}
use Rattle.elf_model.specs.RelEntries.{relocates, entry_count, entries_so_far, entry_of, entry_tests, relocating_tests, all_relocating_tests, rels_in, rels_at}
use Rattle.elf_model.specs.Relocations.{rel_of}
use Rattle.elf_model.specs.Relocatable.{relocatable_tests, relocatable_abis, relocatable_types, relocatable_of, sections, section_of}
use Rattle.elf_model.specs.RelSound.{IsRelSound, IsSectionSound, IsSymbolSound, IsRelSoundIn, IsNameText, is_place_among, is_definition, AcceptedIsRelSound}
use Rattle.elf_model.proofs.Tests.{both_pass, front_holds, two_hold, below_holds, those_hold}
use Rattle.elf_model.proofs.Texts.{read_name}

-- ---- what a test tells

if_some : {X : Type 0} (P : X → Type 0) (o : Option X) → ((x : X) → o ≡ Some x → P x) → IfSome o P
if_some P None each = tt
if_some P (Some x) each = each x refl

pub below_is : (a n x : ℕ) → Contains (range_with_len a n) x → (a ≤ x) × (x < a + n)
below_is a n x there =
    let len : length (range_with_len a n) ≡ n = length-range_with_len a n in
    let lt : there.0 < n = omega (arith, len, there.1) in
    let at : a + there.0 ≡ x = sym (get_or-range_with_len a n there.0 x lt) ∙ there.2 in
    (omega (arith, at), omega (arith, at, lt))

pub below : (n x : ℕ) → Contains (range_with_len 0 n) x → x < n
below n x there = let within = below_is 0 n x there in omega (arith, within.1)

-- ---- kept sections

-- what is known of the header of a kept section
pub record IsKeptSound (bytes : List ℕ) (h : SectionHeader) : Type 0 where
  pub no_tls : has_flag h.flags number.SHF_TLS ≡ false
  pub aligned : is_section_align h.align ≡ true
  pub in_file : (is_nobits h || not (passes_end bytes h.offset h.size)) ≡ true
  pub small : h.size ≤ number.MAX_SECTION_BYTES

pub kept_sound : (bytes : List ℕ) (i : ℕ) → first_failing (all_section_tests bytes) ≡ None → i < e_shnum bytes → is_kept (section_header bytes i) ≡ true
    → IsKeptSound bytes (section_header bytes i)
unfolding all_section_tests section_tests kept_tests
kept_sound bytes i t lt kept =
    let h = section_header bytes i in
    let at = section_offset bytes i in
    let here = below_holds (section_tests bytes) (e_shnum bytes) i t lt in
    let behind = (front_holds (refuses kind.Group at (h.kind == number.SHT_GROUP)) (only_where (is_kept h) (kept_tests bytes i)) here).1 in
    let all = those_hold (is_kept h) (kept_tests bytes i) behind kept in
    let three = refuses kind.Table at (not (is_section_align h.align && is_section_range bytes h))
    ∷ refuses kind.TooMany at (nat_lt number.MAX_SECTION_BYTES (bytes_so_far bytes i))
    ∷ refuses kind.NameRange at (is_none (string_at (section_names bytes) h.name)) ∷ [] in
    let tls = front_holds (refuses kind.Tls at (has_flag h.flags number.SHF_TLS)) three all in
    let table = (front_holds (refuses kind.Table at (not (is_section_align h.align && is_section_range bytes h)))
    (refuses kind.TooMany at (nat_lt number.MAX_SECTION_BYTES (bytes_so_far bytes i)) ∷ refuses kind.NameRange at (is_none (string_at (section_names bytes) h.name)) ∷ []) tls.1).0 in
    let both = and_parts (is_section_align h.align) (is_section_range bytes h) (not-false (is_section_align h.align && is_section_range bytes h) table) in
    let range = and_parts (is_nobits h || not (passes_end bytes h.offset h.size)) (nat_le h.size number.MAX_SECTION_BYTES) both.1 in
    record { no_tls = tls.0; aligned = both.0; in_file = range.0; small = leb-true h.size number.MAX_SECTION_BYTES range.1 }

filled_by : (bytes : List ℕ) (h : SectionHeader) (b : Bool) → is_nobits h ≡ b → (b || not (passes_end bytes h.offset h.size)) ≡ true
    → length (cond b [] (slice_range bytes h.offset (h.offset + h.size))) ≡ cond b 0 h.size
filled_by bytes h true is inside = refl
filled_by bytes h false is inside =
    let le : h.offset + h.size ≤ length bytes = ltb-false (length bytes) (h.offset + h.size) (not-true (passes_end bytes h.offset h.size) inside) in
    let long : h.offset + h.size - h.offset ≤ length (drop h.offset bytes) = omega (arith, le, length-drop h.offset bytes) in
    length-take-le (h.offset + h.size - h.offset) (drop h.offset bytes) long ∙ omega arith

-- ---- their relocations

entry_sound : (bytes : List ℕ) (i j k : ℕ) → first_failing (all_relocating_tests bytes) ≡ None → j < e_shnum bytes → is_kept_at bytes i ≡ true
    → ((section_header bytes j).kind == number.SHT_REL && (section_header bytes j).info == i) ≡ true → k < entry_count (section_header bytes j)
    → IsRelSoundIn (cond (is_nobits (section_header bytes i)) 0 (section_header bytes i).size) (symbol_count bytes) (rel_of (entry_of bytes (section_header bytes j) k))
unfolding all_relocating_tests relocating_tests relocates entry_tests
entry_sound bytes i j k t lt kept of inside =
    let h = section_header bytes j in
    let at = section_offset bytes j in
    let e = entry_of bytes h k in
    let parts = and_parts (h.kind == number.SHT_REL) (h.info == i) of in
    let info : h.info ≡ i = eqb-true h.info i parts.1 in
    let one : (number.SHT_REL == h.kind) ≡ true = eq-eqb number.SHT_REL h.kind (sym (eqb-true h.kind number.SHT_REL parts.0)) in
    let does : relocates bytes h ≡ true = rw (one, info, kept) refl in
    let here = those_hold (relocates bytes h) (relocating_tests bytes j)
    (below_holds (λ n. only_where (relocates bytes (section_header bytes n)) (relocating_tests bytes n)) (e_shnum bytes) j t lt) does in
    let table = refuses kind.Rela at (h.kind == number.SHT_RELA)
    ∷ refuses kind.Table at (passes_end bytes h.offset h.size || not (h.size % number.REL_SIZE == 0))
    ∷ refuses kind.TooMany at (nat_lt number.MAX_ENTRIES (entry_count h) || nat_lt number.MAX_SECTIONS_ENTRIES (entries_so_far bytes j))
    ∷ [] in
    let entries = (both_pass table (each_below (entry_count h) (entry_tests bytes h)) here).1 in
    let relocated = section_header bytes h.info in
    let two = two_hold (refuses kind.Table e.offset (not (e.symbol == 0 || nat_lt e.symbol (symbol_count bytes))))
    (refuses kind.SiteRange e.offset (is_nobits relocated || nat_lt relocated.size (e.site + 4)))
    (below_holds (entry_tests bytes h) (entry_count h) k entries inside) in
    let range : (is_nobits (section_header bytes i) || nat_lt (section_header bytes i).size (e.site + 4)) ≡ false =
    subst (λ (n : ℕ). (is_nobits (section_header bytes n) || nat_lt (section_header bytes n).size (e.site + 4)) ≡ false) info two.1 in
    let bytes_there = or_parts (is_nobits (section_header bytes i)) (nat_lt (section_header bytes i).size (e.site + 4)) range in
    record {
      inside = rw bytes_there.0 (ltb-false (section_header bytes i).size (e.site + 4) bytes_there.1);
      known = not-false (e.symbol == 0 || nat_lt e.symbol (symbol_count bytes)) two.0;
    }

rels_sound : (bytes : List ℕ) (i : ℕ) → first_failing (all_relocating_tests bytes) ≡ None → is_kept_at bytes i ≡ true
    → All (IsRelSoundIn (cond (is_nobits (section_header bytes i)) 0 (section_header bytes i).size) (symbol_count bytes)) (rels_at bytes i)
unfolding rels_at
rels_sound bytes i t kept =
    let P = IsRelSoundIn (cond (is_nobits (section_header bytes i)) 0 (section_header bytes i).size) (symbol_count bytes) in
    let of : SectionHeader → Bool = λ h. h.kind == number.SHT_REL && h.info == i in
    all_contained P (flat_map (rels_in bytes) (filter of (section_headers bytes))) (λ r there.
    let from = in_flat_map (rels_in bytes) (filter of (section_headers bytes)) r there in
    let header = in_filter of (section_headers bytes) from.0 from.1 in
    let place = in_map (section_header bytes) (range_with_len 0 (e_shnum bytes)) from.0 header.0 in
    let entry = in_map (λ k. rel_of (entry_of bytes from.0 k)) (range_with_len 0 (entry_count from.0)) r from.2 in
    let within = below (e_shnum bytes) place.0 place.1 in
    let inside = below (entry_count from.0) entry.0 entry.1 in
    let is : (of (section_header bytes place.0)) ≡ true = subst (λ (h : SectionHeader). of h ≡ true) (sym place.2) header.1 in
    let few : entry.0 < entry_count (section_header bytes place.0) = subst (λ (h : SectionHeader). entry.0 < entry_count h) (sym place.2) inside in
    let sound = entry_sound bytes i place.0 entry.0 t within kept is few in
    subst P entry.2 (subst (λ (h : SectionHeader). P (rel_of (entry_of bytes h entry.0))) place.2 sound))

section_sound : (bytes : List ℕ) (i : ℕ) → first_failing (all_section_tests bytes) ≡ None → first_failing (all_relocating_tests bytes) ≡ None
    → i < e_shnum bytes → is_kept (section_header bytes i) ≡ true → IsSectionSound (symbol_count bytes) (section_of bytes i)
unfolding section_bytes is_kept_at
section_sound bytes i t rels lt kept =
    let h = section_header bytes i in
    let sound = kept_sound bytes i t lt kept in
    let parts = and_parts (has_flag h.flags number.SHF_ALLOC) (is_one_of section.kept_kinds h.kind) kept in
    let there : is_kept_at bytes i ≡ true = rw (lt-ltb i (e_shnum bytes) lt, kept) refl in
    record {
      named = if_some IsNameText (name_at (section_names bytes) h.name) (λ name is. read_name (section_names bytes) h.name name is);
      kept = parts.1;
      has_memory = parts.0;
      no_tls = sound.no_tls;
      aligned = sound.aligned;
      small = sound.small;
      filled' = filled_by bytes h (is_nobits h) refl sound.in_file;
      fills = rels_sound bytes i rels there;
    }

sections_sound : (bytes : List ℕ) → first_failing (all_section_tests bytes) ≡ None → first_failing (all_relocating_tests bytes) ≡ None
    → All (IsSectionSound (symbol_count bytes)) (sections bytes)
unfolding sections
sections_sound bytes t rels =
    let P = IsSectionSound (symbol_count bytes) in
    let kept : ℕ → Bool = λ i. is_kept (section_header bytes i) in
    all_contained P (map (section_of bytes) (filter kept (range_with_len 0 (e_shnum bytes)))) (λ s there.
    let from = in_map (section_of bytes) (filter kept (range_with_len 0 (e_shnum bytes))) s there in
    let place = in_filter kept (range_with_len 0 (e_shnum bytes)) from.0 from.1 in
    subst P from.2 (section_sound bytes from.0 t rels (below (e_shnum bytes) from.0 place.0) place.1))

-- ---- symbols

-- kept sections before one are fewer than all
kept_fewer : (f : ℕ → SectionHeader) (a i n : ℕ) → i < n → is_kept (f (a + i)) ≡ true
    → length (filter is_kept (map f (range_with_len a i))) < length (filter (λ k. is_kept (f k)) (range_with_len a n))
kept_fewer f a zero zero lt kept = absurd (omega arith)
kept_fewer f a zero (suc n) lt kept =
    let here : is_kept (f a) ≡ true = subst (λ (k : ℕ). is_kept (f k) ≡ true) (add-zero a) kept in
    rw here (omega arith)
kept_fewer f a (suc i) zero lt kept = absurd (omega arith)
kept_fewer f a (suc i) (suc n) lt kept =
    let same : (a + 1) + i ≡ a + suc i = omega arith in
    one_more (is_kept (f a)) (f a) a _ _ (kept_fewer f (a + 1) i n (omega arith) (rw same kept))
  where
    one_more : (b : Bool) (h : SectionHeader) (a : ℕ) (hs : List SectionHeader) (ks : List ℕ) → length hs < length ks
        → length (cond b (h ∷ hs) hs) < length (cond b (a ∷ ks) ks)
    one_more true h a hs ks lt = omega arith
    one_more false h a hs ks lt = lt

sections_count : (bytes : List ℕ) → length (sections bytes) ≡ length (filter (λ k. is_kept (section_header bytes k)) (range_with_len 0 (e_shnum bytes)))
unfolding sections
sections_count bytes = simp length-map refl

below_all_kept : (bytes : List ℕ) (n : ℕ) → is_kept_at bytes n ≡ true → nat_lt (kept_number bytes n) (length (sections bytes)) ≡ true
unfolding is_kept_at
below_all_kept bytes n kept =
    let parts = and_parts (nat_lt n (e_shnum bytes)) (is_kept (section_header bytes n)) kept in
    let zero_is : n ≡ 0 + n = omega arith in
    let here : is_kept (section_header bytes (0 + n)) ≡ true = subst (λ (k : ℕ). is_kept (section_header bytes k) ≡ true) zero_is parts.1 in
    lt-ltb _ _ (rw (sections_count bytes) (kept_fewer (section_header bytes) 0 n (e_shnum bytes) (ltb-true n (e_shnum bytes) parts.0) here))

place_among : (bytes : List ℕ) (n : ℕ) → is_place_among (length (sections bytes)) (place_of bytes n) ≡ true
unfolding place_of
place_among bytes n =
    by_index (n == number.SHN_UNDEF) (n == number.SHN_ABS) (n == number.SHN_COMMON) (is_kept_at bytes n) (kept_number bytes n) (length (sections bytes)) (below_all_kept bytes n)
  where
    by_index : (a b c d : Bool) (i n : ℕ) → (d ≡ true → nat_lt i n ≡ true)
        → is_place_among n (cond a Undefined (cond b Absolute (cond c Common (cond d (Section i) Dropped)))) ≡ true
    by_index true b c d i n f = refl
    by_index false true c d i n f = refl
    by_index false false true d i n f = refl
    by_index false false false true i n f = f refl
    by_index false false false false i n f = refl

-- a function that is placed is none of Thumb
no_thumb : (bytes : List ℕ) (e : SymbolEntry) → (is_defined_function e && (not (e.section == number.SHN_COMMON) && e.value % 2 == 1)) ≡ false
    → (type_of e == number.STT_FUNC && (is_definition (place_of bytes e.section) && e.value % 2 == 1)) ≡ false
unfolding place_of
no_thumb bytes e t =
    by_tests (type_of e == number.STT_FUNC) (e.section == number.SHN_UNDEF) (e.section == number.SHN_ABS) (e.section == number.SHN_COMMON) (is_kept_at bytes e.section) (e.value % 2 == 1)
    (kept_number bytes e.section) (λ abs common. let p = eqb-true e.section number.SHN_ABS abs in let q = eqb-true e.section number.SHN_COMMON common in absurd (omega (arith, p, q))) t
  where
    by_tests : (f u a c k odd : Bool) (i : ℕ) → (a ≡ true → c ≡ true → ⊥) → ((f && not u) && (not c && odd)) ≡ false
        → (f && (is_definition (cond u Undefined (cond a Absolute (cond c Common (cond k (Section i) Dropped)))) && odd)) ≡ false
    by_tests false u a c k odd i one t = refl
    by_tests true true a c k odd i one t = refl
    by_tests true false true true k odd i one t = absurd (one refl refl)
    by_tests true false true false k odd i one t = t
    by_tests true false false true k odd i one t = refl
    by_tests true false false false true odd i one t = t
    by_tests true false false false false odd i one t = t

symbol_sound : (bytes : List ℕ) (e : SymbolEntry) → first_failing (symbol_tests bytes (strings bytes) e) ≡ None
    → IsSymbolSound (length (sections bytes)) (rel_symbol_of bytes e)
unfolding symbol_tests symbol_of has_name
symbol_sound bytes e t =
    let names = strings bytes in
    let name = refuses kind.NameRange e.offset (not (has_name names e)) in
    let tls = refuses kind.Tls e.offset (type_of e == number.STT_TLS) in
    let table = refuses kind.Table e.offset (not (nat_le (binding_of e) number.STB_WEAK && has_place bytes e)) in
    let thumb = refuses kind.Thumb e.offset (is_defined_function e && (not (e.section == number.SHN_COMMON) && e.value % 2 == 1)) in
    let one = front_holds name (tls ∷ table ∷ thumb ∷ []) t in
    let two = front_holds tls (table ∷ thumb ∷ []) one.1 in
    let three = two_hold table thumb two.1 in
    let named = and_parts (not (is_none (string_at names e.name))) (binding_of e == number.STB_LOCAL || not (is_none (name_at names e.name))) (not-false (has_name names e) one.0) in
    let bound = and_parts (nat_le (binding_of e) number.STB_WEAK) (has_place bytes e) (not-false (nat_le (binding_of e) number.STB_WEAK && has_place bytes e) three.0) in
    record {
      named = if_some IsNameText (name_at names e.name) (λ name is. read_name names e.name name is);
      nameless = λ none. elim (or_cases (binding_of e == number.STB_LOCAL) (not (is_none (name_at names e.name))) named.1) [
        | inl local ↦ eqb-true (binding_of e) number.STB_LOCAL local
        | inr some ↦ absurd (false≢true (sym (ap not (is_none_of (name_at names e.name) none)) ∙ some))
      ];
      known_binding = leb-true (binding_of e) number.STB_WEAK bound.0;
      small_kind = omega arith;
      no_tls = λ is. absurd (false≢true (sym two.0 ∙ eq-eqb (type_of e) number.STT_TLS is));
      known_visibility = omega arith;
      placed = place_among bytes e.section;
      no_thumb = no_thumb bytes e three.1;
    }

null_sound : (sections : ℕ) → IsSymbolSound sections null_symbol
null_sound sections = record {
  named = tt;
  nameless = λ none. refl;
  known_binding = omega arith;
  small_kind = omega arith;
  no_tls = λ is. absurd (omega (arith, is));
  known_visibility = omega arith;
  placed = refl;
  no_thumb = refl;
}

symbols_sound : (bytes : List ℕ) → first_failing (all_symbol_tests bytes) ≡ None → All (IsSymbolSound (length (sections bytes))) (symbols bytes)
unfolding all_symbol_tests symbols
symbols_sound bytes t = by_count (symbol_count bytes == 0)
  where
    P : Symbol → Type 0
    P = IsSymbolSound (length (sections bytes))

    read : ℕ → Symbol
    read i = rel_symbol_of bytes (symbol_entry_of bytes (symbols_offset bytes) i)

    each : All P (map read (range_with_len 1 (symbol_count bytes - 1)))
    each = all_contained P (map read (range_with_len 1 (symbol_count bytes - 1))) (λ s there.
        let from = in_map read (range_with_len 1 (symbol_count bytes - 1)) s there in
        let within = below_is 1 (symbol_count bytes - 1) from.0 from.1 in
        let same : (from.0 - 1) + 1 ≡ from.0 = omega (arith, within.0) in
        let here = below_holds (λ k. symbol_tests bytes (strings bytes) (symbol_entry_of bytes (symbols_offset bytes) (k + 1))) (symbol_count bytes - 1) (from.0 - 1) t (omega (arith, within.0, within.1)) in
        subst P from.2 (symbol_sound bytes (symbol_entry_of bytes (symbols_offset bytes) from.0)
        (subst (λ (n : ℕ). first_failing (symbol_tests bytes (strings bytes) (symbol_entry_of bytes (symbols_offset bytes) n)) ≡ None) same here)))

    by_count : (b : Bool) → All P (cond b [] (null_symbol ∷ map read (range_with_len 1 (symbol_count bytes - 1))))
    by_count true = All-nil P
    by_count false = All-cons P null_symbol (map read (range_with_len 1 (symbol_count bytes - 1))) (null_sound (length (sections bytes))) each

symbols_count : (bytes : List ℕ) → length (symbols bytes) ≡ symbol_count bytes
unfolding symbols
symbols_count bytes = by_count (symbol_count bytes == 0) refl
  where
    read : ℕ → Symbol
    read i = rel_symbol_of bytes (symbol_entry_of bytes (symbols_offset bytes) i)

    by_count : (b : Bool) → (symbol_count bytes == 0) ≡ b → length (cond b [] (null_symbol ∷ map read (range_with_len 1 (symbol_count bytes - 1)))) ≡ symbol_count bytes
    by_count true is = sym (eqb-true (symbol_count bytes) 0 is)
    by_count false is =
        let len = length-map-range_with_len read 1 (symbol_count bytes - 1) in
        let some : symbol_count bytes ≢ 0 = eqb-false (symbol_count bytes) 0 is in
        let one : 1 ≤ symbol_count bytes = omega (arith, some) in
        omega (arith, len, one)

null_first : (bytes : List ℕ) → All (λ s. s ≡ null_symbol) (take 1 (symbols bytes))
unfolding symbols
null_first bytes = by_count (symbol_count bytes == 0) (map (λ i. rel_symbol_of bytes (symbol_entry_of bytes (symbols_offset bytes) i)) (range_with_len 1 (symbol_count bytes - 1)))
  where
    by_count : (b : Bool) (rest : List Symbol) → All (λ s. s ≡ null_symbol) (take 1 (cond b [] (null_symbol ∷ rest)))
    by_count true rest = All-nil (λ s. s ≡ null_symbol)
    by_count false rest = All-cons (λ s. s ≡ null_symbol) null_symbol [] refl (All-nil (λ s. s ≡ null_symbol))

few_in_table : (bytes : List ℕ) (o : Option ℕ) → first_failing (of_some o (symbol_section_tests bytes)) ≡ None
    → option_map_or (λ i. (section_header bytes i).size / number.SYM_SIZE) o 0 ≤ number.MAX_ENTRIES
unfolding symbol_section_tests
few_in_table bytes None t = omega arith
few_in_table bytes (Some i) t =
    let h = section_header bytes i in
    let at = section_offset bytes i in
    let held = two_hold (refuses kind.Table at (passes_end bytes h.offset h.size || (not (symbol.has_strings bytes h) || not (h.size % number.SYM_SIZE == 0))))
    (refuses kind.TooMany at (nat_lt number.MAX_ENTRIES (h.size / number.SYM_SIZE))) t in
    ltb-false number.MAX_ENTRIES (h.size / number.SYM_SIZE) held.1

few_symbols : (bytes : List ℕ) → first_failing (symbol_table_tests bytes) ≡ None → symbol_count bytes ≤ number.MAX_ENTRIES
unfolding symbol_table_tests symbol_count
few_symbols bytes t =
    few_in_table bytes (symbol_section bytes)
    (both_pass (of_some (symbol_section bytes) (symbol_section_tests bytes)) (of_some (slice_get (symbol.symbol_sections bytes) 1) (λ i. refuses kind.Table (section_offset bytes i) true ∷ [])) t).0

-- ---- all of it

sound_file : (bytes : List ℕ) → first_failing (relocatable_tests bytes) ≡ None → IsRelSound (relocatable_of bytes)
unfolding relocatable_tests relocatable_of
sound_file bytes t =
    let entries = all_relocating_tests bytes in
    let named = all_symbol_tests bytes ++ entries in
    let table = symbol_table_tests bytes ++ named in
    let kept = all_section_tests bytes ++ table in
    let file = both_pass (file_tests relocatable_abis relocatable_types bytes) (needed_table_tests bytes ++ kept) t in
    let headers = both_pass (needed_table_tests bytes) kept file.1 in
    let section = both_pass (all_section_tests bytes) table headers.1 in
    let symbol = both_pass (symbol_table_tests bytes) named section.1 in
    let last = both_pass (all_symbol_tests bytes) entries symbol.1 in
    record {
      sound_sections = rw (symbols_count bytes) (sections_sound bytes section.0 last.1);
      sound_symbols = symbols_sound bytes last.0;
      null_first = null_first bytes;
      few_symbols = rw (symbols_count bytes) (few_symbols bytes symbol.0);
    }

pub accepted_is_rel_sound : AcceptedIsRelSound
accepted_is_rel_sound bytes r h = subst (λ (x : RelObject). IsRelSound x) (sym h.fields) (sound_file bytes h.passes)
