-- Whatever loading fills in an accepted object lies in one writable segment, and apart from all else that it fills.
use Rattle.std.proofs.Common.{◌≡◌, ℕ, suc, ◌+◌, ◌*◌, ◌%◌, ◌≤◌, Bool, true, false, not, cond, ◌&&◌, ◌||◌, ◌==◌, nat_lt, nat_le, List, [], ◌∷◌, ◌++◌, length, map, take, None, refl, sym, ap, subst, ◌∙◌, inl, inr, arith, All, AllPairs, append-nil, append_assoc, length-append}
use Rattle.std.specs.Prelude.{filter}
use Rattle.std.specs.List.{list_any}
use Rattle.std.proofs.lemmas.List.{map-append}
use Rattle.std.proofs.Math.Seq.{take-append_seam}
use Rattle.std.proofs.lemmas.List.Elements.{All-nil, All-push, All-cons, All-head, All-tail, filter-append}
use Rattle.std.proofs.lemmas.List.Quantifiers.{all_pairs_push}
use Rattle.std.proofs.lemmas.Bool.{and_parts, and_cases, or_parts, or_cases, ltb-false, leb-true, eqb-true, not-false}
use Rattle.elf_model.specs.declared.refusal.ElfKind.TheVariants.{RelocType, Table, SiteRange, SiteOverlap}
use Rattle.elf_model.specs.declared.table.ProgramHeader.{ProgramHeader}
use Rattle.elf_model.specs.declared.table.RelEntry.{RelEntry}
use Rattle.elf_model.specs.declared.table.Site.{Site}
use Rattle.elf_model.specs.declared.object.Segment.{Segment}
use Rattle.elf_model.specs.Test.{ElfTest, refuses, only_where, first_failing, each_from}
use Rattle.elf_model.specs.Segments.{segment, is_writable_at, is_in_memory, has_flag}
use Rattle.elf_model.specs.Relocations.{meets, is_in_place, is_kind_of, site_tests, rel_entry_tests, all_rel_tests, fixup_tests, fills, site_of, sites_of, got_header, sites_before, sites_before_fixup, word_site}
use Rattle.elf_model.specs.Places.{is_writable_in, spans}
use Rattle.elf_model.specs.declared.constants.TheConstants.{PF_W}
use Rattle.elf_model.specs.Sound.{IsInPlace, IsWhole, RangesApart, SegmentsApart}
use Rattle.elf_model.proofs.Tests.{both_pass, front_holds, two_hold}

-- what is known of some ranges that were accepted
pub record AreGood (ss : List Segment) (rs : List Site) : Type 0 where
  pub in_place : All (IsInPlace ss) rs
  pub distinct : AllPairs RangesApart rs

-- the memory of a segment is that of its header
pub writable_same : (bytes : List ℕ) (loads : List ProgramHeader) (addr n : ℕ) → is_writable_in (map (segment bytes) loads) addr n ≡ is_writable_at loads addr n
unfolding is_writable_at
writable_same bytes [] addr n = refl
writable_same bytes (h ∷ hs) addr n = ap (λ b. has_flag h.flags PF_W && is_in_memory h addr n || b) (writable_same bytes hs addr n)

in_place_of : (bytes : List ℕ) (loads : List ProgramHeader) (s : Site) → is_in_place loads s ≡ true → IsInPlace (map (segment bytes) loads) s
unfolding is_in_place
in_place_of bytes loads s t =
    let parts = and_parts (s.addr % 4 == 0) (is_writable_at loads s.addr s.size) t in
    record { aligned = eqb-true (s.addr % 4) 0 parts.0; writable = writable_same bytes loads s.addr s.size ∙ parts.1 }

apart_of : (a b : Site) → meets b a ≡ false → RangesApart a b
unfolding meets
apart_of a b h =
    elim (and_cases (nat_lt b.addr (a.addr + a.size)) (nat_lt a.addr (b.addr + b.size)) h) [
      | inl above ↦ inl (ltb-false b.addr (a.addr + a.size) above)
      | inr below ↦ inr (ltb-false a.addr (b.addr + b.size) below)
    ]

all_apart_of : (b : Site) (rs : List Site) → list_any (λ a. meets b a) rs ≡ false → All (λ a. RangesApart a b) rs
all_apart_of b [] h = All-nil _
all_apart_of b (a ∷ rs) h =
    let parts = or_parts (meets b a) (list_any (λ c. meets b c) rs) h in
    All-cons (λ c. RangesApart c b) a rs (apart_of a b parts.0) (all_apart_of b rs parts.1)

-- a site that passes its tests after these
pub good_site : (bytes : List ℕ) (loads : List ProgramHeader) (rs : List Site) (offset : ℕ) (s : Site) → AreGood (map (segment bytes) loads) rs
    → first_failing (site_tests loads rs offset s) ≡ None → AreGood (map (segment bytes) loads) (rs ++ s ∷ [])
unfolding site_tests
good_site bytes loads rs offset s before t =
    let held = two_hold (refuses SiteRange offset (not (is_in_place loads s))) (refuses SiteOverlap offset (list_any (λ e. meets s e) rs)) t in
    record {
      in_place = All-push (IsInPlace (map (segment bytes) loads)) rs s before.in_place (in_place_of bytes loads s (not-false (is_in_place loads s) held.0));
      distinct = all_pairs_push RangesApart rs s before.distinct (λ k d lt. all_apart_of s rs held.1 k d lt);
    }

-- an entry that passes its tests after these
good_by_fills : (bytes : List ℕ) (loads : List ProgramHeader) (rs : List Site) (e : RelEntry) → AreGood (map (segment bytes) loads) rs
    → (b : Bool) → first_failing (only_where b (site_tests loads rs e.offset (site_of e))) ≡ None
    → AreGood (map (segment bytes) loads) (rs ++ map site_of (cond b (e ∷ []) []))
good_by_fills bytes loads rs e before false t = rw append-nil before
good_by_fills bytes loads rs e before true t = good_site bytes loads rs e.offset (site_of e) before t

rest_of : (loads : List ProgramHeader) (count : ℕ) (rs : List Site) (e : RelEntry) → List ElfTest
rest_of loads count rs e =
    refuses Table e.offset (not (e.symbol == 0 || nat_lt e.symbol count)) ∷ only_where (fills e) (site_tests loads rs e.offset (site_of e))

good_entry : (bytes : List ℕ) (loads : List ProgramHeader) (count : ℕ) (rs : List Site) (e : RelEntry) → AreGood (map (segment bytes) loads) rs
    → first_failing (rel_entry_tests loads count rs e) ≡ None
    → AreGood (map (segment bytes) loads) (rs ++ sites_of (e ∷ []))
unfolding rel_entry_tests rest_of
good_entry bytes loads count rs e before t =
    let one = front_holds (refuses RelocType e.offset (not (is_kind_of e.table e.kind))) (rest_of loads count rs e) t in
    let two = front_holds (refuses Table e.offset (not (e.symbol == 0 || nat_lt e.symbol count))) (only_where (fills e) (site_tests loads rs e.offset (site_of e))) one.1 in
    good_by_fills bytes loads rs e before (fills e) two.1

-- ---- a list of entries, of which some are done

pub sites_of-append : (xs ys : List RelEntry) → sites_of (xs ++ ys) ≡ sites_of xs ++ sites_of ys
sites_of-append xs ys = ap (map site_of) (filter-append fills xs ys) ∙ map-append site_of (filter fills xs) (filter fills ys)

-- the tests of entries, each with the sites of those before it, where some are done
good_entries_after : (bytes : List ℕ) (loads : List ProgramHeader) (count got : ℕ) (all done rest : List RelEntry) → all ≡ done ++ rest
    → AreGood (map (segment bytes) loads) (got_header got ∷ sites_of done)
    → first_failing (each_from (length done) (λ k e. rel_entry_tests loads count (sites_before got all k) e) rest) ≡ None
    → AreGood (map (segment bytes) loads) (got_header got ∷ sites_of all)
unfolding each_from
good_entries_after bytes loads count got all done [] is before t =
    subst (λ (xs : List RelEntry). AreGood (map (segment bytes) loads) (got_header got ∷ sites_of xs)) (sym (is ∙ append-nil done)) before
good_entries_after bytes loads count got all done (e ∷ es) is before t =
    let parts = both_pass (rel_entry_tests loads count (sites_before got all (length done)) e)
    (each_from (suc (length done)) (λ k e. rel_entry_tests loads count (sites_before got all k) e) es) t in
    let taken : take (length done) all ≡ done = ap (take (length done)) is ∙ take-append_seam done (e ∷ es) in
    let here : first_failing (rel_entry_tests loads count (got_header got ∷ sites_of done) e) ≡ None
    = subst (λ (xs : List RelEntry). first_failing (rel_entry_tests loads count (got_header got ∷ sites_of xs) e) ≡ None) taken parts.0 in
    let now : AreGood (map (segment bytes) loads) (got_header got ∷ sites_of (done ++ e ∷ []))
    = rw (sites_of-append done (e ∷ [])) (good_entry bytes loads count (got_header got ∷ sites_of done) e before here) in
    let longer : length (done ++ e ∷ []) ≡ suc (length done) = length-append done (e ∷ []) ∙ omega arith in
    good_entries_after bytes loads count got all (done ++ e ∷ []) es (is ∙ sym (append_assoc done (e ∷ []) es)) now
    (subst (λ (n : ℕ). first_failing (each_from n (λ k e. rel_entry_tests loads count (sites_before got all k) e) es) ≡ None) (sym longer) parts.1)

pub good_entries : (bytes : List ℕ) (loads : List ProgramHeader) (count got : ℕ) (entries : List RelEntry)
    → AreGood (map (segment bytes) loads) (got_header got ∷ [])
    → first_failing (all_rel_tests loads count got entries) ≡ None
    → AreGood (map (segment bytes) loads) (got_header got ∷ sites_of entries)
unfolding all_rel_tests
good_entries bytes loads count got entries before t = good_entries_after bytes loads count got entries [] entries refl before t

-- the tests of fixups, where some are done
good_fixups_after : (bytes : List ℕ) (loads : List ProgramHeader) (got offset : ℕ) (entries : List RelEntry) (all done rest : List ℕ) → all ≡ done ++ rest
    → AreGood (map (segment bytes) loads) (got_header got ∷ sites_of entries ++ map word_site done)
    → first_failing (each_from (length done) (λ k addr. site_tests loads (sites_before_fixup got entries all k) (offset + 4 * k) (word_site addr)) rest) ≡ None
    → AreGood (map (segment bytes) loads) (got_header got ∷ sites_of entries ++ map word_site all)
unfolding each_from
good_fixups_after bytes loads got offset entries all done [] is before t =
    subst (λ (xs : List ℕ). AreGood (map (segment bytes) loads) (got_header got ∷ sites_of entries ++ map word_site xs)) (sym (is ∙ append-nil done)) before
good_fixups_after bytes loads got offset entries all done (v ∷ vs) is before t =
    let parts = both_pass (site_tests loads (sites_before_fixup got entries all (length done)) (offset + 4 * length done) (word_site v))
    (each_from (suc (length done)) (λ k addr. site_tests loads (sites_before_fixup got entries all k) (offset + 4 * k) (word_site addr)) vs) t in
    let taken : take (length done) all ≡ done = ap (take (length done)) is ∙ take-append_seam done (v ∷ vs) in
    let here : first_failing (site_tests loads (got_header got ∷ sites_of entries ++ map word_site done) (offset + 4 * length done) (word_site v)) ≡ None
    = subst (λ (xs : List ℕ). first_failing (site_tests loads (got_header got ∷ sites_of entries ++ map word_site xs) (offset + 4 * length done) (word_site v)) ≡ None) taken parts.0 in
    let now = good_site bytes loads (got_header got ∷ sites_of entries ++ map word_site done) (offset + 4 * length done) (word_site v) before here in
    let joined : (sites_of entries ++ map word_site done) ++ word_site v ∷ [] ≡ sites_of entries ++ map word_site (done ++ v ∷ [])
    = append_assoc (sites_of entries) (map word_site done) (word_site v ∷ []) ∙ ap (λ xs. sites_of entries ++ xs) (sym (map-append word_site done (v ∷ []))) in
    let longer : length (done ++ v ∷ []) ≡ suc (length done) = length-append done (v ∷ []) ∙ omega arith in
    good_fixups_after bytes loads got offset entries all (done ++ v ∷ []) vs (is ∙ sym (append_assoc done (v ∷ []) vs))
    (subst (λ (xs : List Site). AreGood (map (segment bytes) loads) (got_header got ∷ xs)) joined now)
    (subst (λ (n : ℕ). first_failing (each_from n (λ k addr. site_tests loads (sites_before_fixup got entries all k) (offset + 4 * k) (word_site addr)) vs) ≡ None) (sym longer) parts.1)

pub good_fixups : (bytes : List ℕ) (loads : List ProgramHeader) (got offset : ℕ) (entries : List RelEntry) (fixups : List ℕ)
    → AreGood (map (segment bytes) loads) (got_header got ∷ sites_of entries)
    → first_failing (fixup_tests loads got entries offset fixups) ≡ None
    → AreGood (map (segment bytes) loads) (got_header got ∷ sites_of entries ++ map word_site fixups)
unfolding fixup_tests
good_fixups bytes loads got offset entries fixups before t =
    good_fixups_after bytes loads got offset entries fixups [] fixups refl (rw append-nil before) t

-- ---- what lies in one of segments that are apart, lies whole in each or meets none of it

whole_elsewhere : (s : Segment) (ss : List Segment) (r : Site) → All (SegmentsApart s) ss → s.vaddr ≤ r.addr → r.addr + r.size ≤ s.vaddr + s.memsz
    → All (λ t. IsWhole t r) ss
whole_elsewhere s ss r apart low high k d lt =
    elim (apart k d lt) [
      | inl below ↦ inr (inl (omega arith))
      | inr above ↦ inr (inr (omega arith))
    ]

meets_none : (s : Segment) (ss : List Segment) (r : Site) → All (SegmentsApart s) ss → is_writable_in ss r.addr r.size ≡ true → IsWhole s r
meets_none s [] r apart h = absurd cc
meets_none s (t ∷ ts) r apart h =
    elim (or_cases (has_flag t.flags PF_W && spans t r.addr r.size) (is_writable_in ts r.addr r.size) h) [
      | inl here ↦ outside s t r (All-head (SegmentsApart s) t ts apart) (and_parts (has_flag t.flags PF_W) (spans t r.addr r.size) here).1
      | inr later ↦ meets_none s ts r (All-tail (SegmentsApart s) t ts apart) later
    ]
  where
    outside : (s t : Segment) (r : Site) → SegmentsApart s t → spans t r.addr r.size ≡ true → IsWhole s r
    outside s t r apart inside =
        let parts = and_parts (nat_le t.vaddr r.addr) (nat_le (r.addr + r.size) (t.vaddr + t.memsz)) inside in
        let low : t.vaddr ≤ r.addr = leb-true t.vaddr r.addr parts.0 in
        let high : r.addr + r.size ≤ t.vaddr + t.memsz = leb-true (r.addr + r.size) (t.vaddr + t.memsz) parts.1 in
        elim apart [
          | inl below ↦ inr (inr (omega arith))
          | inr above ↦ inr (inl (omega arith))
        ]

pub whole_in_each : (ss : List Segment) (r : Site) → AllPairs SegmentsApart ss → is_writable_in ss r.addr r.size ≡ true → All (λ s. IsWhole s r) ss
whole_in_each [] r apart h = All-nil _
whole_in_each (s ∷ ss) r apart h =
    let first : All (SegmentsApart s) ss = λ k d lt. apart 0 (suc k) d (omega arith) (omega arith) in
    let others : AllPairs SegmentsApart ss = λ i j d lt in'. apart (suc i) (suc j) d (omega arith) (omega arith) in
    elim (or_cases (has_flag s.flags PF_W && spans s r.addr r.size) (is_writable_in ss r.addr r.size) h) [
      | inl here ↦
          let parts = and_parts (nat_le s.vaddr r.addr) (nat_le (r.addr + r.size) (s.vaddr + s.memsz)) (and_parts (has_flag s.flags PF_W) (spans s r.addr r.size) here).1 in
          let low : s.vaddr ≤ r.addr = leb-true s.vaddr r.addr parts.0 in
          let high : r.addr + r.size ≤ s.vaddr + s.memsz = leb-true (r.addr + r.size) (s.vaddr + s.memsz) parts.1 in
          All-cons (λ t. IsWhole t r) s ss (inl (low, high)) (whole_elsewhere s ss r first low high)
      | inr later ↦ All-cons (λ t. IsWhole t r) s ss (meets_none s ss r first later) (whole_in_each ss r others later)
    ]
