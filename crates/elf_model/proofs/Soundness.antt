-- Every accepted object is sound.
use Rattle.std.proofs.Common.{◌≡◌, ℕ, ◌+◌, ◌*◌, ◌/◌, ◌%◌, ◌≤◌, true, false, not, ◌||◌, ◌==◌, nat_lt, List, [], ◌∷◌, ◌++◌, length, map, get_or, Option, Some, None, refl, sym, ap, subst, ◌∙◌, inl, inr, arith, All, append-nil}
use Rattle.std.specs.Prelude.{filter, option_map, unwrap_or, is_none, count_by}
use Rattle.std.specs.Option.{option_map_or}
use Rattle.std.specs.List.{range_with_len}
use Rattle.std.proofs.lemmas.List.{length-map}
use Rattle.std.proofs.lemmas.List.Elements.{All-nil, All-cons, All-map, All-filter}
use Rattle.std.proofs.lemmas.List.Sums.{length-filter, count_by-le-length}
use Rattle.std.proofs.lemmas.List.FromFn.{length-range_with_len}
use Rattle.std.proofs.lemmas.Bool.{and_parts, or_cases, ltb-false, eqb-true, not-false, false≢true}
use Rattle.fd_base.proofs.Lists.{all_back}
use Rattle.elf_model.specs.declared.constants.TheConstants.{DT_REL, DT_RELSZ, DT_JMPREL, DT_PLTRELSZ}
use Rattle.elf_model.specs.declared.refusal.ElfKind.TheVariants.{Table, TooMany, NoGot, RelocType}
use Rattle.elf_model.specs.declared.table.ProgramHeader.{ProgramHeader}
use Rattle.elf_model.specs.declared.table.DynEntry.{DynEntry}
use Rattle.elf_model.specs.declared.table.RelTable.{RelTable}
use Rattle.elf_model.specs.declared.table.RelTable.TheVariants.{Rel as InRel, JmpRel as InJmpRel}
use Rattle.elf_model.specs.declared.table.RelEntry.{RelEntry}
use Rattle.elf_model.specs.declared.object.Object.{Object}
use Rattle.elf_model.specs.Test.{refuses, only_where, of_some, first_failing}
use Rattle.elf_model.specs.Header.{header_tests}
use Rattle.elf_model.specs.Segments.{loads, segments, segment_tests, some_segment_tests, held_at, is_writable_at}
use Rattle.elf_model.specs.Sections.{rofixup, rofixup_offset, rofixup_tests, fixups_of}
use Rattle.elf_model.specs.Dynamic.{first_of, value_of, dynamic_range_tests, dynamic_offset_or, all_entry_tests}
use Rattle.elf_model.specs.Relocations as rel
use Rattle.elf_model.specs.Relocations.{rel_table_at, rel_table_tests, both_table_tests, all_rel_tests, fixup_tests, rel_entry_tests, site_tests, is_in_place, sites_before, is_kind_of, rel_entry, own_places, entries_at, is_slot_entry, fills, site_of, sites_of, rel_of, rels_of, word_site, got_header}
use Rattle.elf_model.specs.Fields as field
use Rattle.elf_model.specs.Fields.{got_tests, is_got_place, got_or_zero, all_fixup_tests}
use Rattle.elf_model.specs.Object.{tests, all_segment_tests, dynamic_tests, name_tests, relocation_tests, object_of}
use Rattle.elf_model.specs.Places.{site_of_rel, filled_ranges}
use Rattle.elf_model.specs.Sound.{IsSound, IsInPlace, AcceptedIsSound}
use Rattle.elf_model.proofs.Tests.{both_pass, front_holds, two_hold, each_holds}
use Rattle.elf_model.proofs.SoundSegments.{sound_loads}
use Rattle.elf_model.proofs.SoundSites.{AreGood, writable_same, good_entries, good_fixups, sites_of-append, whole_in_each}

-- ---- the GOT

got_somewhere : (loads : List ProgramHeader) (got : Option ℕ) → option_map_or (is_got_place loads) got false ≡ true → is_got_place loads (unwrap_or got 0) ≡ true
got_somewhere loads None h = absurd cc
got_somewhere loads (Some addr) h = h

good_got : (bytes : List ℕ) → first_failing (got_tests bytes) ≡ None → AreGood (segments bytes) (got_header (got_or_zero bytes) ∷ [])
unfolding got_tests is_got_place is_in_place
good_got bytes t =
    let place = option_map_or (is_got_place (loads bytes)) (field.got bytes) false in
    let held = front_holds (refuses NoGot (dynamic_offset_or bytes 28) (not place)) [] t in
    let parts = and_parts (got_or_zero bytes % 4 == 0) (is_writable_at (loads bytes) (got_or_zero bytes) 12)
    (got_somewhere (loads bytes) (field.got bytes) (not-false place held.0)) in
    let there : IsInPlace (segments bytes) (got_header (got_or_zero bytes)) = record {
      aligned = eqb-true (got_or_zero bytes % 4) 0 parts.0;
      writable = writable_same bytes (loads bytes) (got_or_zero bytes) 12 ∙ parts.1;
    } in
    record {
      in_place = All-cons (IsInPlace (segments bytes)) (got_header (got_or_zero bytes)) [] there (All-nil (IsInPlace (segments bytes)));
      distinct = λ i j d lt in'. absurd (omega arith);
    }

-- ---- relocations and fixups

sites_of_rels : (es : List RelEntry) → map site_of_rel (rels_of es) ≡ sites_of es
sites_of_rels es = same (filter fills es)
  where
    same : (xs : List RelEntry) → map site_of_rel (map rel_of xs) ≡ map site_of xs
    same [] = refl
    same (x ∷ xs) = ap (λ rest. site_of x ∷ rest) (same xs)

good_listed : (bytes : List ℕ) (list : Option ℕ) → AreGood (segments bytes) (got_header (got_or_zero bytes) ∷ sites_of (field.all_rel_entries bytes))
    → first_failing (of_some list (λ i. fixup_tests (loads bytes) (got_or_zero bytes) (field.all_rel_entries bytes) (rofixup_offset bytes i 0) (fixups_of bytes i))) ≡ None
    → AreGood (segments bytes) (got_header (got_or_zero bytes) ∷ sites_of (field.all_rel_entries bytes) ++ map word_site (unwrap_or (option_map (fixups_of bytes) list) []))
good_listed bytes None before t = rw append-nil before
good_listed bytes (Some i) before t =
    good_fixups bytes (loads bytes) (got_or_zero bytes) (rofixup_offset bytes i 0) (field.all_rel_entries bytes) (fixups_of bytes i) before t

ranges_are : (bytes : List ℕ) → filled_ranges (object_of bytes)
    ≡ got_header (got_or_zero bytes) ∷ sites_of (field.all_rel_entries bytes) ++ map word_site (unwrap_or (option_map (fixups_of bytes) (rofixup bytes)) [])
unfolding object_of field.all_rel_entries field.rel_entries field.jmprel_entries field.fixups
ranges_are bytes = rw (
  sites_of_rels (rel.rel_entries bytes (loads bytes) (field.entries bytes)),
  sites_of_rels (rel.jmprel_entries bytes (loads bytes) (field.entries bytes)),
  sites_of-append (rel.rel_entries bytes (loads bytes) (field.entries bytes)) (rel.jmprel_entries bytes (loads bytes) (field.entries bytes)),
) refl

-- ---- how many relocations there are

few_of_table : (table size : ℕ) (loads : List ProgramHeader) (entries : List DynEntry) (e : DynEntry) → first_of table entries ≡ Some e
    → first_failing (rel_table_tests loads entries table size) ≡ None → unwrap_or (value_of size entries) 0 / 8 ≤ 65536
unfolding rel_table_tests
few_of_table table size loads entries e is t =
    let two = λ (e : DynEntry). refuses Table e.offset (is_none (rel_table_at loads e.value (value_of size entries)))
    ∷ refuses TooMany e.offset (nat_lt 65536 (unwrap_or (value_of size entries) 0 / 8)) ∷ [] in
    let here : first_failing (two e) ≡ None = subst (λ (o : Option DynEntry). first_failing (of_some o two) ≡ None) is t in
    let held = two_hold (refuses Table e.offset (is_none (rel_table_at loads e.value (value_of size entries))))
    (refuses TooMany e.offset (nat_lt 65536 (unwrap_or (value_of size entries) 0 / 8))) here in
    ltb-false 65536 (unwrap_or (value_of size entries) 0 / 8) held.1

few_filled : (es : List RelEntry) → length (rels_of es) ≤ length es
few_filled es = simp (length-map, length-filter) (count_by-le-length fills es)

few_own : (bytes : List ℕ) (loads : List ProgramHeader) (entries : List DynEntry) (o : Option DynEntry) → first_of DT_REL entries ≡ o
    → first_failing (rel_table_tests loads entries DT_REL DT_RELSZ) ≡ None
    → length (option_map_or (λ addr. entries_at bytes InRel (unwrap_or (held_at loads addr (unwrap_or (value_of DT_RELSZ entries) 0)) 0) (own_places entries addr (unwrap_or (value_of DT_RELSZ entries) 0))) (option_map (λ e. e.value) o) []) ≤ 65536
few_own bytes loads entries None is t = omega arith
few_own bytes loads entries (Some e) is t =
    let few = few_of_table DT_REL DT_RELSZ loads entries e is t in
    let n = unwrap_or (value_of DT_RELSZ entries) 0 / 8 in
    let kept : count_by (λ k. not (is_slot_entry entries (e.value + 8 * k))) (range_with_len 0 n) ≤ length (range_with_len 0 n)
    = count_by-le-length (λ k. not (is_slot_entry entries (e.value + 8 * k))) (range_with_len 0 n) in
    let all : length (range_with_len 0 n) ≡ n = length-range_with_len 0 n in
    simp (length-map, length-filter) (omega (arith, kept, all, few))

few_rels : (bytes : List ℕ) → first_failing (both_table_tests (loads bytes) (field.entries bytes)) ≡ None → length (rels_of (field.rel_entries bytes)) ≤ 65536
unfolding both_table_tests field.rel_entries rel.rel_entries
few_rels bytes t =
    let parts = both_pass (rel_table_tests (loads bytes) (field.entries bytes) DT_REL DT_RELSZ) (rel_table_tests (loads bytes) (field.entries bytes) DT_JMPREL DT_PLTRELSZ) t in
    let own = few_own bytes (loads bytes) (field.entries bytes) (first_of DT_REL (field.entries bytes)) refl parts.0 in
    omega (arith, few_filled (rel.rel_entries bytes (loads bytes) (field.entries bytes)), own)

few_jmprels : (bytes : List ℕ) (loads : List ProgramHeader) (entries : List DynEntry) (o : Option DynEntry) → first_of DT_JMPREL entries ≡ o
    → first_failing (rel_table_tests loads entries DT_JMPREL DT_PLTRELSZ) ≡ None
    → length (option_map_or (λ addr. entries_at bytes InJmpRel (unwrap_or (held_at loads addr (unwrap_or (value_of DT_PLTRELSZ entries) 0)) 0) (range_with_len 0 (unwrap_or (value_of DT_PLTRELSZ entries) 0 / 8))) (option_map (λ e. e.value) o) []) ≤ 65536
few_jmprels bytes loads entries None is t = omega arith
few_jmprels bytes loads entries (Some e) is t =
    let few = few_of_table DT_JMPREL DT_PLTRELSZ loads entries e is t in
    simp (length-map, length-range_with_len) few

few_slots : (bytes : List ℕ) → first_failing (both_table_tests (loads bytes) (field.entries bytes)) ≡ None → length (rels_of (field.jmprel_entries bytes)) ≤ 65536
unfolding both_table_tests field.jmprel_entries rel.jmprel_entries
few_slots bytes t =
    let parts = both_pass (rel_table_tests (loads bytes) (field.entries bytes) DT_REL DT_RELSZ) (rel_table_tests (loads bytes) (field.entries bytes) DT_JMPREL DT_PLTRELSZ) t in
    let own = few_jmprels bytes (loads bytes) (field.entries bytes) (first_of DT_JMPREL (field.entries bytes)) refl parts.1 in
    omega (arith, few_filled (rel.jmprel_entries bytes (loads bytes) (field.entries bytes)), own)

-- ---- the kinds of the slots' relocations

kinds_hold : (loads : List ProgramHeader) (count got : ℕ) (es : List RelEntry) → first_failing (all_rel_tests loads count got es) ≡ None
    → All (λ e. is_kind_of e.table e.kind ≡ true) es
unfolding all_rel_tests rel_entry_tests
kinds_hold loads count got es t k d lt =
    let e = get_or es k d in
    let here = each_holds (λ k e. rel_entry_tests loads count (sites_before got es k) e) es 0 k k d t lt (omega arith) in
    let held = front_holds (refuses RelocType e.offset (not (is_kind_of e.table e.kind)))
    (refuses Table e.offset (not (e.symbol == 0 || nat_lt e.symbol count)) ∷ only_where (fills e) (site_tests loads (sites_before got es k) e.offset (site_of e))) here in
    not-false (is_kind_of e.table e.kind) held.0

in_slot_table : (bytes : List ℕ) (loads : List ProgramHeader) (entries : List DynEntry) (addr : Option ℕ)
    → All (λ e. e.table ≡ InJmpRel) (option_map_or (λ addr. entries_at bytes InJmpRel (unwrap_or (held_at loads addr (unwrap_or (value_of DT_PLTRELSZ entries) 0)) 0) (range_with_len 0 (unwrap_or (value_of DT_PLTRELSZ entries) 0 / 8))) addr [])
unfolding rel_entry
in_slot_table bytes loads entries None = All-nil (λ e. e.table ≡ InJmpRel)
in_slot_table bytes loads entries (Some addr) = All-map (λ e. e.table ≡ InJmpRel) _ _ (λ k d lt. refl)

slot_kind : (e : RelEntry) → e.table ≡ InJmpRel → is_kind_of e.table e.kind ≡ true → e.kind ≡ 164
slot_kind e is h =
    let here : is_kind_of InJmpRel e.kind ≡ true = subst (λ (t : RelTable). is_kind_of t e.kind ≡ true) is h in
    elim (or_cases (164 == e.kind) false here) [ inl same ↦ sym (eqb-true 164 e.kind same) | inr never ↦ absurd (false≢true never) ]

slot_kinds : (bytes : List ℕ) → first_failing (all_rel_tests (loads bytes) (field.symbol_count bytes) (got_or_zero bytes) (field.all_rel_entries bytes)) ≡ None
    → All (λ r. r.kind ≡ 164) (rels_of (field.jmprel_entries bytes))
unfolding field.all_rel_entries field.jmprel_entries rel.jmprel_entries
slot_kinds bytes t =
    let es = rel.jmprel_entries bytes (loads bytes) (field.entries bytes) in
    let tables = in_slot_table bytes (loads bytes) (field.entries bytes) (value_of DT_JMPREL (field.entries bytes)) in
    let kinds = all_back (λ e. is_kind_of e.table e.kind ≡ true) (rel.rel_entries bytes (loads bytes) (field.entries bytes)) es
    (kinds_hold (loads bytes) (field.symbol_count bytes) (got_or_zero bytes) (field.all_rel_entries bytes) t) in
    let all : All (λ e. e.kind ≡ 164) es = λ k d lt. slot_kind (get_or es k d) (tables k d lt) (kinds k d lt) in
    All-map (λ r. r.kind ≡ 164) rel_of (filter fills es) (All-filter fills (λ e. e.kind ≡ 164) es all)

-- ---- all of it

sound_object : (bytes : List ℕ) → first_failing (tests bytes) ≡ None → IsSound (object_of bytes)
unfolding tests all_segment_tests dynamic_tests relocation_tests all_fixup_tests object_of
sound_object bytes t =
    let header = both_pass (header_tests bytes) (all_segment_tests bytes ++ (dynamic_tests bytes ++ (name_tests bytes ++ relocation_tests bytes))) t in
    let segment = both_pass (all_segment_tests bytes) (dynamic_tests bytes ++ (name_tests bytes ++ relocation_tests bytes)) header.1 in
    let dynamic = both_pass (dynamic_tests bytes) (name_tests bytes ++ relocation_tests bytes) segment.1 in
    let last = both_pass (name_tests bytes) (relocation_tests bytes) dynamic.1 in
    let loaded = sound_loads bytes (both_pass (segment_tests bytes) (some_segment_tests bytes) segment.0).0 in
    let entry = both_pass (dynamic_range_tests bytes (loads bytes)) (all_entry_tests (field.entries bytes) ++ (rofixup_tests bytes ++ got_tests bytes)) dynamic.0 in
    let list = both_pass (all_entry_tests (field.entries bytes)) (rofixup_tests bytes ++ got_tests bytes) entry.1 in
    let got = good_got bytes (both_pass (rofixup_tests bytes) (got_tests bytes) list.1).1 in
    let all_rels = all_rel_tests (loads bytes) (field.symbol_count bytes) (got_or_zero bytes) (field.all_rel_entries bytes) in
    let table = both_pass (both_table_tests (loads bytes) (field.entries bytes)) (all_rels ++ all_fixup_tests bytes) last.1 in
    let site = both_pass all_rels (all_fixup_tests bytes) table.1 in
    let placed = good_entries bytes (loads bytes) (field.symbol_count bytes) (got_or_zero bytes) (field.all_rel_entries bytes) got site.0 in
    let good : AreGood (segments bytes) (filled_ranges (object_of bytes)) = rw (ranges_are bytes) (good_listed bytes (rofixup bytes) placed site.1) in
    record {
      few = simp length-map (omega (arith, loaded.few));
      apart = loaded.apart;
      sized = loaded.sized;
      in_place = good.in_place;
      whole = λ k d lt j e in'. whole_in_each (segments bytes) (get_or (filled_ranges (object_of bytes)) j e) loaded.apart (good.in_place j e in').writable k d lt;
      distinct = good.distinct;
      slot_kinds = slot_kinds bytes site.0;
      few_rels = few_rels bytes table.0;
      few_slots = few_slots bytes table.0;
    }

pub accepted_is_sound : AcceptedIsSound
accepted_is_sound bytes o h = subst (λ (x : Object). IsSound x) (sym h.fields) (sound_object bytes h.passes)
