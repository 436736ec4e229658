-- What loading fills in a written object: the tests of its places hold.
use Rattle.std.proofs.Common.{◌≡◌, ℕ, ◌+◌, ◌*◌, ◌%◌, ◌<◌, ◌≤◌, suc, inl, inr, true, false, not, ◌&&◌, ◌||◌, List, [], ◌∷◌, ◌++◌, length, get_or, map, take, All, AllPairs, Some, None, refl, sym, ap, ◌∙◌, subst, arith, add-zero}
use Rattle.std.specs.Prelude.{◌==◌, nat_lt, option_map, unwrap_or}
use Rattle.std.specs.Option.{option_or, option_map_or}
use Rattle.std.specs.List.{list_any}
use Rattle.std.proofs.Math.Seq.{take-append-add}
use Rattle.std.proofs.lemmas.Bool.{le-ltb, eq-eqb, and_from, and_left, and_right}
use Rattle.std.proofs.lemmas.List.{length-map, map-append, length-take-le, get_or-take, get_or_append_left, get_or-append-add, take-append-le, take-map, get_or-map}
use Rattle.std.proofs.lemmas.List.Elements.{All-head, All-tail, All-nil, All-cons, All-append, All-take, All-from_get_or}
use Rattle.std.proofs.lemmas.List.Folds.{list_any-append, list_any_none}
use Rattle.fd_base.proofs.Options.{none_or}
use Rattle.elf_model.specs.declared.constants.TheConstants.{DT_PLTGOT}
use Rattle.elf_model.specs.declared.refusal.ElfKind.TheVariants as refusal
use Rattle.elf_model.specs.declared.object.Object.{Object}
use Rattle.elf_model.specs.declared.object.Rel.{Rel}
use Rattle.elf_model.specs.declared.table.ProgramHeader.{ProgramHeader}
use Rattle.elf_model.specs.declared.table.RelEntry.{RelEntry}
use Rattle.elf_model.specs.declared.table.RelTable.{RelTable}
use Rattle.elf_model.specs.declared.table.RelTable.TheVariants.{Rel as InRel, JmpRel as InJmpRel}
use Rattle.elf_model.specs.declared.table.Site.{Site}
use Rattle.elf_model.specs.Test.{Test, refuses, of_some, only_where, each_from, first_failing}
use Rattle.elf_model.specs.Segments.{loads}
use Rattle.elf_model.specs.Places.{is_writable, is_writable_in, spans, site_of_rel, filled_ranges}
use Rattle.elf_model.specs.Sections.{rofixup, rofixup_offset, listed_got, fixups_of}
use Rattle.elf_model.specs.Relocations.{meets, is_in_place, site_tests, is_kind_of, fills, site_of, word_site, got_header, sites_before, sites_before_fixup, rel_entry_tests, all_rel_tests, fixup_tests}
use Rattle.elf_model.specs.Sound.{IsInPlace, RangesApart}
use Rattle.elf_model.specs.Fields as field
use Rattle.elf_model.proofs.Passing.{both, where_true}
use Rattle.elf_model.proofs.SoundSites.{writable_same}
use Rattle.elf_write.specs.declared.limits.TheConstants.{MAX_FILE_BYTES}
use Rattle.elf_write.specs.TableSegment.{layout_of, table_segment}
use Rattle.elf_write.specs.ObjectFile.{table_offset, object_file}
use Rattle.elf_write.specs.WritableObject.{IsWritableObject}
use Rattle.write_laws.specs.ObjectReadBack.{FitsObjectFields}
use Rattle.write_laws.proofs.Listing.{all_kept}
use Rattle.write_laws.proofs.ProgramTests.{segments_are}
use Rattle.write_laws.proofs.EntryValues.{got_value}
use Rattle.write_laws.proofs.ObjectStrings.{value_is}
use Rattle.write_laws.proofs.ObjectCount.{symbol_count_is}
use Rattle.write_laws.proofs.ObjectRels.{rel_placed_at, rels_placed, fill_all, all_entries_are}
use Rattle.write_laws.proofs.ObjectSections.{none_rofixup, rofixup_is, listed_fixups}

-- tests item by item
items_at : {R X : Type 0} (tests : ℕ → X → List (Test R)) (k : ℕ) (xs : List X) → ((i : ℕ) (d : X) → i < length xs → first_failing (tests (k + i) (get_or xs i d)) ≡ None) → first_failing (each_from k tests xs) ≡ None
unfolding each_from
items_at tests k [] each = refl
items_at tests k (x ∷ xs) each =
    both (tests k x) (each_from (suc k) tests xs) (ap (λ n. first_failing (tests n x)) (sym (add-zero k)) ∙ each 0 x (omega arith))
    (items_at tests (suc k) xs (λ i d lt. let e : suc k + i ≡ k + suc i = omega arith in ap (λ n. first_failing (tests n (get_or xs i d))) e ∙ each (suc i) d (omega (arith, lt))))

-- ---- one site among all

meets_none : (a b : Site) → RangesApart a b → meets b a ≡ false
unfolding meets
meets_none a b apart =
    elim apart [
      | inl le ↦ and_left (nat_lt b.addr (a.addr + a.size)) (nat_lt a.addr (b.addr + b.size)) (le-ltb _ _ le)
      | inr le ↦ and_right (nat_lt b.addr (a.addr + a.size)) (nat_lt a.addr (b.addr + b.size)) (le-ltb _ _ le)
    ]

site_passes : (hs : List ProgramHeader) (all : List Site) (i offset : ℕ) (d : Site) → All (λ s. is_in_place hs s ≡ true) all → AllPairs RangesApart all → i < length all → first_failing (site_tests hs (take i all) offset (get_or all i d)) ≡ None
unfolding site_tests
site_passes hs all i offset d good apart lt =
    let s = get_or all i d in
    let size = length-take-le i all (omega (arith, lt)) in
    let each : All (λ e. meets s e ≡ false) (take i all)
    = All-from_get_or (λ e. meets s e ≡ false) (take i all) d (λ k within.
    subst (λ e. meets s e ≡ false) (sym (get_or-take i all k d (omega (arith, size, within)))) (meets_none (get_or all k d) s (apart k i d (omega (arith, size, within)) lt))) in
    let none : list_any (λ e. meets s e) (take i all) ≡ false = list_any_none (λ e. meets s e) (take i all) each in
    rw (good i d lt, none) refl

-- ---- those of entries and fixups, behind the header of the GOT

abbrev ranges : ℕ → List RelEntry → List ℕ → List Site
ranges got es fx = got_header got ∷ (map site_of es ++ map word_site fx)

module _ (hs : List ProgramHeader) (got : ℕ) (es : List RelEntry) (fx : List ℕ) (fill : All (λ e. fills e ≡ true) es) (good : All (λ s. is_in_place hs s ≡ true) (ranges got es fx)) (apart : AllPairs RangesApart (ranges got es fx)) where
  before_entry : (k : ℕ) → k < length es → sites_before got es k ≡ take (suc k) (ranges got es fx)
  before_entry k lt =
      let len = length-map es site_of in
      ap (λ xs. got_header got ∷ map site_of xs) (all_kept fills (take k es) (All-take (λ e. fills e ≡ true) k es fill))
      ∙ ap (λ xs. got_header got ∷ xs) (sym (take-append-le k (map site_of es) (map word_site fx) (omega (arith, len, lt)) ∙ take-map site_of k es))

  entry_at : (k : ℕ) (e : RelEntry) (d : Site) → k < length es → site_of (get_or es k e) ≡ get_or (ranges got es fx) (suc k) d
  entry_at k e d lt =
      let len = length-map es site_of in
      sym (get_or_append_left (map site_of es) (map word_site fx) d k (omega (arith, len, lt)) ∙ get_or-map site_of es k e d lt)

  count : length (ranges got es fx) ≡ suc (length es + length fx)
  count =
      let a = length-append' (map site_of es) (map word_site fx) in
      let b = length-map es site_of in
      let c = length-map fx word_site in
      omega (arith, a, b, c)
    where
      length-append' : (xs ys : List Site) → length (xs ++ ys) ≡ length xs + length ys
      length-append' [] ys = omega arith
      length-append' (x ∷ xs) ys = let e = length-append' xs ys in omega (arith, e)

  entries_pass : (symbols : ℕ) → All (λ e. is_kind_of e.table e.kind ≡ true) es → All (λ e. (e.symbol == 0 || nat_lt e.symbol symbols) ≡ true) es → first_failing (all_rel_tests hs symbols got es) ≡ None
  unfolding all_rel_tests rel_entry_tests
  entries_pass symbols kinds known =
      let tests = λ (k : ℕ) (e : RelEntry). rel_entry_tests hs symbols (sites_before got es k) e in
      items_at tests 0 es (λ k d lt.
      let e = get_or es k d in
      let here : 0 + k ≡ k = omega arith in
      let n = count in
      let site : first_failing (site_tests hs (sites_before got es k) e.offset (site_of e)) ≡ None
      = ap (λ earlier. first_failing (site_tests hs earlier e.offset (site_of e))) (before_entry k lt)
      ∙ ap (λ s. first_failing (site_tests hs (take (suc k) (ranges got es fx)) e.offset s)) (entry_at k d (got_header got) lt)
      ∙ site_passes hs (ranges got es fx) (suc k) e.offset (got_header got) good apart (omega (arith, n, lt)) in
      let two : first_failing (refuses refusal.RelocType e.offset (not (is_kind_of e.table e.kind)) ∷ refuses refusal.Table e.offset (not (e.symbol == 0 || nat_lt e.symbol symbols)) ∷ []) ≡ None = rw (kinds k d lt, known k d lt) refl in
      ap (λ n. first_failing (tests n e)) here
      ∙ both (refuses refusal.RelocType e.offset (not (is_kind_of e.table e.kind)) ∷ refuses refusal.Table e.offset (not (e.symbol == 0 || nat_lt e.symbol symbols)) ∷ []) (only_where (fills e) (site_tests hs (sites_before got es k) e.offset (site_of e))) two
      (where_true (fills e) (site_tests hs (sites_before got es k) e.offset (site_of e)) (λ some. site)))

  fixups_pass : (offset : ℕ) → first_failing (fixup_tests hs got es offset fx) ≡ None
  unfolding fixup_tests
  fixups_pass offset =
      let tests = λ (k addr : ℕ). site_tests hs (sites_before_fixup got es fx k) (offset + 4 * k) (word_site addr) in
      items_at tests 0 fx (λ k d lt.
      let here : 0 + k ≡ k = omega arith in
      let n = count in
      let len = length-map es site_of in
      let m = length (map site_of es) in
      let at = offset + 4 * k in
      let earlier : sites_before_fixup got es fx k ≡ take (suc (m + k)) (ranges got es fx)
      = ap (λ xs. got_header got ∷ (map site_of xs ++ map word_site (take k fx))) (all_kept fills es fill)
      ∙ ap (λ xs. got_header got ∷ (map site_of es ++ xs)) (sym (take-map word_site k fx))
      ∙ ap (λ xs. got_header got ∷ xs) (sym (take-append-add (map site_of es) (map word_site fx) k)) in
      let site : word_site (get_or fx k d) ≡ get_or (ranges got es fx) (suc (m + k)) (got_header got)
      = sym (get_or-append-add (map site_of es) (map word_site fx) k (got_header got) ∙ get_or-map word_site fx k d (got_header got) lt) in
      ap (λ n. first_failing (tests n (get_or fx k d))) here
      ∙ ap (λ xs. first_failing (site_tests hs xs at (word_site (get_or fx k d)))) earlier
      ∙ ap (λ s. first_failing (site_tests hs (take (suc (m + k)) (ranges got es fx)) at s)) site
      ∙ site_passes hs (ranges got es fx) (suc (m + k)) at (got_header got) good apart (omega (arith, n, len, lt)))

-- ---- those of an object

sites_placed : (table : RelTable) (offset : ℕ) (rs : List Rel) → map site_of (rels_placed table offset rs) ≡ map site_of_rel rs
sites_placed table offset [] = refl
sites_placed table offset (r ∷ rs) = ap (λ ss. site_of_rel r ∷ ss) (sites_placed table (offset + 8) rs)

placed_hold : (P : RelEntry → Type 0) (Q : Rel → Type 0) (table : RelTable) (offset : ℕ) (rs : List Rel) → ((offset : ℕ) (r : Rel) → Q r → P (rel_placed_at table offset r)) → All Q rs → All P (rels_placed table offset rs)
placed_hold P Q table offset [] each all = All-nil P
placed_hold P Q table offset (r ∷ rs) each all =
    All-cons P (rel_placed_at table offset r) (rels_placed table (offset + 8) rs) (each offset r (All-head Q r rs all)) (placed_hold P Q table (offset + 8) rs each (All-tail Q r rs all))

module _ (o : Object) (w : IsWritableObject o) (f : FitsObjectFields o) (short : length (object_file o) ≤ MAX_FILE_BYTES) where
  abbrev rels : List RelEntry
  rels = rels_placed InRel (table_offset o (layout_of o).rels) o.rels

  abbrev slots : List RelEntry
  slots = rels_placed InJmpRel (table_offset o (layout_of o).jmprels) o.jmprels

  abbrev fixups : List ℕ
  fixups = unwrap_or o.fixups []

  in_place : (s : Site) → IsInPlace o.segments s → is_in_place (loads (object_file o)) s ≡ true
  unfolding is_in_place
  in_place s p =
      let file = object_file o in
      and_from _ _ (eq-eqb (s.addr % 4) 0 p.aligned)
      (sym (writable_same file (loads file) s.addr s.size)
      ∙ ap (λ ss. is_writable_in ss s.addr s.size) (segments_are o w f short)
      ∙ list_any-append (λ t. is_writable t && spans t s.addr s.size) o.segments (table_segment o ∷ [])
      ∙ ap (λ b. b || list_any (λ t. is_writable t && spans t s.addr s.size) (table_segment o ∷ [])) p.writable)

  same_ranges : filled_ranges o ≡ ranges o.got (rels ++ slots) fixups
  same_ranges =
      let words = map word_site fixups in
      ap (λ ss. got_header o.got ∷ ss)
      (ap (λ ss. ss ++ words) (sym (map-append site_of rels slots ∙ ap (λ ss. ss ++ map site_of slots) (sites_placed InRel (table_offset o (layout_of o).rels) o.rels)
      ∙ ap (λ ss. map site_of_rel o.rels ++ ss) (sites_placed InJmpRel (table_offset o (layout_of o).jmprels) o.jmprels))))

  good : All (λ s. is_in_place (loads (object_file o)) s ≡ true) (ranges o.got (rels ++ slots) fixups)
  good = subst (λ ss. All (λ s. is_in_place (loads (object_file o)) s ≡ true) ss) same_ranges (λ k d lt. in_place (get_or (filled_ranges o) k d) (w.sound.in_place k d lt))

  apart : AllPairs RangesApart (ranges o.got (rels ++ slots) fixups)
  apart = subst (AllPairs RangesApart) same_ranges w.sound.distinct

  fill : All (λ e. fills e ≡ true) (rels ++ slots)
  fill =
      All-append (λ e. fills e ≡ true) rels slots (fill_all InRel (table_offset o (layout_of o).rels) o.rels (λ k d lt. (w.writable_rels k d lt).fills))
      (fill_all InJmpRel (table_offset o (layout_of o).jmprels) o.jmprels (λ k d lt. (w.writable_slots k d lt).fills))

  -- ---- the GOT

  got_read : field.got (object_file o) ≡ Some o.got
  unfolding field.got
  got_read =
      let file = object_file o in
      ap (λ p. option_or p (option_map (listed_got file) (rofixup file))) (value_is o w f short DT_PLTGOT ∙ got_value o)

  pub got_is : field.got_or_zero (object_file o) ≡ o.got
  got_is = ap (λ p. unwrap_or p 0) got_read

  pub got_passes : first_failing (field.got_tests (object_file o)) ≡ None
  unfolding field.got_tests field.is_got_place
  got_passes =
      let file = object_file o in
      let here : is_in_place (loads file) (got_header o.got) ≡ true = good 0 (got_header o.got) (omega arith) in
      let there : option_map_or (field.is_got_place (loads file)) (field.got file) false ≡ true = ap (λ p. option_map_or (field.is_got_place (loads file)) p false) got_read ∙ here in
      rw there refl

  -- ---- entries and fixups

  kinds : All (λ e. is_kind_of e.table e.kind ≡ true) (rels ++ slots)
  kinds =
      All-append (λ e. is_kind_of e.table e.kind ≡ true) rels slots
      (placed_hold (λ e. is_kind_of e.table e.kind ≡ true) (λ r. is_kind_of InRel r.kind ≡ true) InRel (table_offset o (layout_of o).rels) o.rels (λ at r is. is) (λ k d lt. (w.writable_rels k d lt).known_kind))
      (placed_hold (λ e. is_kind_of e.table e.kind ≡ true) (λ r. r.kind ≡ 164) InJmpRel (table_offset o (layout_of o).jmprels) o.jmprels (λ at r is. ap (is_kind_of InJmpRel) is) w.sound.slot_kinds)

  known : All (λ e. (e.symbol == 0 || nat_lt e.symbol (length o.symbols)) ≡ true) (rels ++ slots)
  known =
      All-append (λ e. (e.symbol == 0 || nat_lt e.symbol (length o.symbols)) ≡ true) rels slots
      (placed_hold (λ e. (e.symbol == 0 || nat_lt e.symbol (length o.symbols)) ≡ true) (λ r. (r.symbol == 0 || nat_lt r.symbol (length o.symbols)) ≡ true) InRel (table_offset o (layout_of o).rels) o.rels (λ at r is. is)
      (λ k d lt. (w.writable_rels k d lt).known_symbol))
      (placed_hold (λ e. (e.symbol == 0 || nat_lt e.symbol (length o.symbols)) ≡ true) (λ r. (r.symbol == 0 || nat_lt r.symbol (length o.symbols)) ≡ true) InJmpRel (table_offset o (layout_of o).jmprels) o.jmprels (λ at r is. is)
      (λ k d lt. (w.writable_slots k d lt).known_symbol))

  pub rels_pass : first_failing (all_rel_tests (loads (object_file o)) (field.symbol_count (object_file o)) (field.got_or_zero (object_file o)) (field.all_rel_entries (object_file o))) ≡ None
  rels_pass =
      let file = object_file o in
      ap (λ n. first_failing (all_rel_tests (loads file) n (field.got_or_zero file) (field.all_rel_entries file))) (symbol_count_is o w f short)
      ∙ ap (λ g. first_failing (all_rel_tests (loads file) (length o.symbols) g (field.all_rel_entries file))) got_is
      ∙ ap (λ es. first_failing (all_rel_tests (loads file) (length o.symbols) o.got es)) (all_entries_are o w f short)
      ∙ entries_pass (loads file) o.got (rels ++ slots) fixups fill good apart (length o.symbols) kinds known

  pub all_fixups_pass : first_failing (field.all_fixup_tests (object_file o)) ≡ None
  unfolding field.all_fixup_tests
  all_fixups_pass =
      let file = object_file o in
      let tests = λ (i : ℕ). fixup_tests (loads file) (field.got_or_zero file) (field.all_rel_entries file) (rofixup_offset file i 0) (fixups_of file i) in
      elim (none_or o.fixups) [
        | inl none ↦ ap (λ p. first_failing (of_some p tests)) (none_rofixup o w f short none)
        | inr one ↦
            let words : fixups_of file 1 ≡ unwrap_or o.fixups [] = listed_fixups o w f short one.0 one.1 ∙ sym (ap (λ p. unwrap_or p []) one.1) in
            ap (λ p. first_failing (of_some p tests)) (rofixup_is o w f short one.0 one.1)
            ∙ ap (λ g. first_failing (fixup_tests (loads file) g (field.all_rel_entries file) (rofixup_offset file 1 0) (fixups_of file 1))) got_is
            ∙ ap (λ es. first_failing (fixup_tests (loads file) o.got es (rofixup_offset file 1 0) (fixups_of file 1))) (all_entries_are o w f short)
            ∙ ap (λ fx. first_failing (fixup_tests (loads file) o.got (rels ++ slots) (rofixup_offset file 1 0) fx)) words
            ∙ fixups_pass (loads file) o.got (rels ++ slots) fixups fill good apart (rofixup_offset file 1 0)
      ]
