-- The relocations of one more header are put to their section.
use Rattle.std.proofs.Common.{◌≡◌, ◌≢◌, ℕ, ◌+◌, ◌<◌, ◌≤◌, Bool, true, false, cond, ◌&&◌, ◌||◌, ◌==◌, List, [], ◌∷◌, ◌++◌, length, map, set, get_or, Option, Some, None, refl, sym, ap, subst, ◌∙◌, inl, inr, arith, All, append-nil, add-zero, eq-eqb}
use Rattle.std.specs.Prelude.{filter, nat_lt}
use Rattle.std.specs.List.{flat_map, range_with_len, sum_by}
use Rattle.std.proofs.lemmas.Bool.{and_parts, cases_lt, eqb-true, eqb-false, ne_eqb, ltb-true, false≢true, or_cases}
use Rattle.std.proofs.lemmas.List.{get_or-set_same, get_or-set_other, length-set, get_or_past}
use Rattle.std.proofs.lemmas.List.Sums.{sum_by-append}
use Rattle.std.proofs.lemmas.List.FromFn.{filter_of_map_range_with_len_more}
use Rattle.std.proofs.lemmas.Grind.{flat_map-append}
use Rattle.elf_model.specs.declared.constants.TheConstants.{SHT_REL, SHT_RELA, MAX_SECTIONS_ENTRIES}
use Rattle.elf_model.specs.declared.object.Rel.{Rel}
use Rattle.elf_model.specs.declared.table.SectionHeader.{SectionHeader}
use Rattle.elf_model.specs.Header.{e_shnum, is_one_of}
use Rattle.elf_model.specs.Sections.{section_header, section_headers}
use Rattle.elf_model.specs.RelSections.{is_kept, is_kept_at, section_headers_below}
use Rattle.elf_model.specs.RelEntries.{relocates, entry_count, entries_so_far, rels_in, rels_at}
use Rattle.elf_read_rel.specs.declared.relocations.Lists.{Lists}
use Rattle.elf_read_rel.specs.parts.Lists.{HasLists, HasRels, has_rels_of, rels_below}

rels_more : (bytes : List ℕ) (n i : ℕ) → rels_below bytes (n + 1) i ≡ rels_below bytes n i ++ flat_map (rels_in bytes) (cond (has_rels_of i (section_header bytes n)) (section_header bytes n ∷ []) [])
rels_more bytes n i =
    ap (flat_map (rels_in bytes)) (filter_of_map_range_with_len_more (has_rels_of i) (section_header bytes) 0 n n (omega arith))
    ∙ flat_map-append (rels_in bytes) (filter (has_rels_of i) (section_headers_below bytes n)) (cond (has_rels_of i (section_header bytes n)) (section_header bytes n ∷ []) [])

tables_more : (bytes : List ℕ) (n : ℕ) → filter (relocates bytes) (section_headers_below bytes (n + 1)) ≡ filter (relocates bytes) (section_headers_below bytes n) ++ cond (relocates bytes (section_header bytes n)) (section_header bytes n ∷ []) []
tables_more bytes n = filter_of_map_range_with_len_more (relocates bytes) (section_header bytes) 0 n n (omega arith)

-- a header without relocations of kept sections has none of one that is kept
has_none : (bytes : List ℕ) (h : SectionHeader) (i : ℕ) → relocates bytes h ≡ false → is_kept_at bytes i ≡ true → has_rels_of i h ≡ false
unfolding relocates
has_none bytes h i out kept = by_test (has_rels_of i h) refl
  where
    by_test : (b : Bool) → has_rels_of i h ≡ b → b ≡ false
    by_test false is = refl
    by_test true is =
        let parts = and_parts (h.kind == SHT_REL) (h.info == i) is in
        let info : h.info ≡ i = eqb-true h.info i parts.1 in
        let one : (SHT_REL == h.kind) ≡ true = eq-eqb SHT_REL h.kind (sym (eqb-true h.kind SHT_REL parts.0)) in
        let does : (is_one_of (SHT_REL ∷ SHT_RELA ∷ []) h.kind && is_kept_at bytes h.info) ≡ true = rw (one, info, kept) refl in
        absurd (false≢true (sym out ∙ does))

pub skipped : (bytes : List ℕ) (n : ℕ) (lists : Lists) → relocates bytes (section_header bytes n) ≡ false → HasLists bytes n lists → HasLists bytes (n + 1) lists
skipped bytes n lists out has = record {
  whole = has.whole;
  rels' = λ i kept. has.rels' i kept ∙ sym (rels_more bytes n i
      ∙ ap (λ b. rels_below bytes n i ++ flat_map (rels_in bytes) (cond b (section_header bytes n ∷ []) [])) (has_none bytes (section_header bytes n) i out kept)
      ∙ append-nil (rels_below bytes n i));
  count = has.count ∙ sym (ap (sum_by entry_count) (tables_more bytes n
      ∙ ap (λ b. filter (relocates bytes) (section_headers_below bytes n) ++ cond b (section_header bytes n ∷ []) []) out
      ∙ append-nil (filter (relocates bytes) (section_headers_below bytes n))));
  few = has.few;
}

pub all_listed : (bytes : List ℕ) (n : ℕ) (lists : Lists) → n ≡ e_shnum bytes → HasLists bytes n lists → HasRels bytes lists.rels.items
unfolding rels_at
all_listed bytes n lists all has = record {
  whole = has.whole;
  rels' = λ i kept. has.rels' i kept ∙ ap (λ k. rels_below bytes k i) all;
}

-- the section that a header has relocations of is there
pub relocated_there : (bytes : List ℕ) (h : SectionHeader) → relocates bytes h ≡ true → (h.info < e_shnum bytes) × (is_kept_at bytes h.info ≡ true)
unfolding relocates is_kept_at
relocated_there bytes h does =
    let kept = (and_parts (is_one_of (SHT_REL ∷ SHT_RELA ∷ []) h.kind) (nat_lt h.info (e_shnum bytes) && is_kept (section_header bytes h.info)) does).1 in
    (ltb-true h.info (e_shnum bytes) (and_parts (nat_lt h.info (e_shnum bytes)) (is_kept (section_header bytes h.info)) kept).0, kept)

is_rel : (bytes : List ℕ) (h : SectionHeader) → relocates bytes h ≡ true → h.kind ≢ SHT_RELA → (h.kind == SHT_REL) ≡ true
unfolding relocates
is_rel bytes h does other =
    let kind = (and_parts (is_one_of (SHT_REL ∷ SHT_RELA ∷ []) h.kind) (is_kept_at bytes h.info) does).0 in
    elim (or_cases (SHT_REL == h.kind) ((SHT_RELA == h.kind) || false) kind) [
      | inl here ↦ eq-eqb h.kind SHT_REL (sym (eqb-true SHT_REL h.kind here))
      | inr there ↦ elim (or_cases (SHT_RELA == h.kind) false there) [
        | inl here ↦ absurd (other (sym (eqb-true SHT_RELA h.kind here)))
        | inr never ↦ absurd (false≢true never)
      ]
    ]

-- the list of a section, where its relocations are put behind those that are there
put_at : (lists : List (List Rel)) (n i : ℕ) (more : List Rel) → n < length lists → get_or (set lists n (get_or lists n [] ++ more)) i [] ≡ get_or lists i [] ++ cond (n == i) more []
put_at lists n i more lt = by_place (n == i) refl
  where
    by_place : (b : Bool) → (n == i) ≡ b → get_or (set lists n (get_or lists n [] ++ more)) i [] ≡ get_or lists i [] ++ cond b more []
    by_place true is =
        let same : n ≡ i = eqb-true n i is in
        subst (λ (k : ℕ). get_or (set lists n (get_or lists n [] ++ more)) k [] ≡ get_or lists k [] ++ more) same (get_or-set_same lists n (get_or lists n [] ++ more) [] lt)
    by_place false is =
        let other : i ≢ n = λ e. eqb-false n i is (sym e) in
        get_or-set_other lists n i (get_or lists n [] ++ more) [] other ∙ sym (append-nil (get_or lists i []))

here_or_none : (bytes : List ℕ) (h : SectionHeader) (i : ℕ) → (h.kind == SHT_REL) ≡ true → flat_map (rels_in bytes) (cond (has_rels_of i h) (h ∷ []) []) ≡ cond (h.info == i) (rels_in bytes h) []
here_or_none bytes h i is = ap (λ b. flat_map (rels_in bytes) (cond (b && h.info == i) (h ∷ []) [])) is ∙ by_place (h.info == i)
  where
    by_place : (b : Bool) → flat_map (rels_in bytes) (cond b (h ∷ []) []) ≡ cond b (rels_in bytes h) []
    by_place true = append-nil (rels_in bytes h)
    by_place false = refl

pub taken : (bytes : List ℕ) (n : ℕ) (old new : Lists) (more : List Rel) → HasLists bytes n old → relocates bytes (section_header bytes n) ≡ true → (section_header bytes n).kind ≢ SHT_RELA
    → more ≡ get_or old.rels.items (section_header bytes n).info [] ++ rels_in bytes (section_header bytes n)
    → new.rels.items ≡ set old.rels.items (section_header bytes n).info more → new.count ≡ entries_so_far bytes n → new.count ≤ MAX_SECTIONS_ENTRIES
    → HasLists bytes (n + 1) new
taken bytes n old new more has does other is put all few =
    let h = section_header bytes n in
    let there = relocated_there bytes h does in
    let kind = is_rel bytes h does other in
    let whole : new.rels.items ≡ set old.rels.items h.info (get_or old.rels.items h.info [] ++ rels_in bytes h) = put ∙ ap (set old.rels.items h.info) is in
    let one : sum_by entry_count (h ∷ []) ≡ entry_count h = omega arith in
    record {
      whole = ap length put ∙ length-set old.rels.items h.info more ∙ has.whole;
      rels' = λ i kept. ap (λ lists. get_or lists i []) whole
          ∙ put_at old.rels.items h.info i (rels_in bytes h) (omega (arith, there.0, has.whole))
          ∙ ap (λ rs. rs ++ cond (h.info == i) (rels_in bytes h) []) (has.rels' i kept)
          ∙ ap (λ rs. rels_below bytes n i ++ rs) (sym (here_or_none bytes h i kind))
          ∙ sym (rels_more bytes n i);
      count = all ∙ sym (ap (sum_by entry_count) (tables_more bytes n ∙ ap (λ b. filter (relocates bytes) (section_headers_below bytes n) ++ cond b (h ∷ []) []) does)
          ∙ sum_by-append entry_count (filter (relocates bytes) (section_headers_below bytes n)) (h ∷ [])
          ∙ ap (λ m. sum_by entry_count (filter (relocates bytes) (section_headers_below bytes n)) + m) one);
      few = few;
    }

-- ---- the lists that are left when some are moved into sections

pub left : (lists : List (List Rel)) (n k : ℕ) (x : List Rel) → n + 1 ≤ k → get_or (set lists n x) k [] ≡ get_or lists k []
left lists n k x le = let other : k ≢ n = λ e. omega (arith, e, le) in get_or-set_other lists n k x [] other
