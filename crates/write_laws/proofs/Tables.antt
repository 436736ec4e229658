-- Tables of relocations: their headers, and that their entries are read.
use Rattle.std.proofs.Common.{◌≡◌, ℕ, ◌+◌, ◌*◌, ◌/◌, ◌%◌, ◌^◌, ◌<◌, ◌≤◌, zero, suc, inl, inr, Bool, true, false, not, cond, ◌&&◌, ◌||◌, List, [], ◌∷◌, ◌++◌, length, get_or, map, All, refl, sym, ap, ◌∙◌, arith, None, eqb-true, append-nil}
use Rattle.std.specs.Prelude.{filter, nat_lt, ◌==◌}
use Rattle.std.specs.List.{flat_map, sum_by}
use Rattle.std.proofs.lemmas.Bool.{le-ltb, ltb-true, or_cases, ne_eqb, eq-eqb, false≢true}
use Rattle.std.proofs.lemmas.List.Elements.{All-head, All-tail, All-nil, All-cons, All-append, filter-append}
use Rattle.std.proofs.lemmas.List.Sums.{sum_by-cons}
use Rattle.fd_base.specs.Words.{word_in, word_bytes}
use Rattle.elf_model.specs.declared.constants.TheConstants.{SHT_NOBITS, SHT_REL, REL_SIZE, MAX_ENTRIES}
use Rattle.elf_model.specs.declared.object.Rel.{Rel}
use Rattle.elf_model.specs.declared.relocatable.RelSection.{RelSection}
use Rattle.elf_model.specs.declared.table.SectionHeader.{SectionHeader}
use Rattle.elf_model.specs.declared.table.RelTable.TheVariants.{Rel as InRel}
use Rattle.elf_model.specs.Test.{first_failing}
use Rattle.elf_model.specs.Sections.{section_header}
use Rattle.elf_model.specs.Relocations.{rel_entry, rel_of}
use Rattle.elf_model.specs.RelSections.{is_nobits}
use Rattle.elf_model.specs.RelSymbols.{symbol_count}
use Rattle.elf_model.specs.RelEntries.{entry_count, entry_of, entry_tests, rels_in}
use Rattle.elf_model.specs.RelSound.{IsSectionSound}
use Rattle.elf_write.specs.Words.{rel_row, table_bytes}
use Rattle.elf_write.specs.Strings as string
use Rattle.elf_write.specs.RelFile.{end_of, rel_bytes, has_rels, rel_size, rel_header, rel_header_if, rel_headers, kept_headers}
use Rattle.write_laws.proofs.Holding.{Holds, front, behind, behind_at, words_held}
use Rattle.write_laws.proofs.Listing.{Lists, lists_map, lists_from, none_kept, sum_by-append}
use Rattle.write_laws.proofs.Parts.{length-rels}

-- ---- entries

pub record IsRelFit (r : Rel) : Type 0 where
  pub site : r.site < 2 ^ 32
  pub kind : r.kind < 2 ^ 8
  pub symbol : r.symbol < 2 ^ 24

entry_held : (bytes : List ℕ) (at : ℕ) (r : Rel) → Holds bytes at (word_bytes (rel_row r)) → IsRelFit r → rel_of (rel_entry bytes InRel at) ≡ r
unfolding rel_entry
entry_held bytes at r h f =
    let k = f.kind in
    let s = f.symbol in
    let site : word_in bytes (at + 0) ≡ r.site = words_held bytes at (rel_row r) 0 h (omega arith) f.site in
    let info : word_in bytes (at + 4) ≡ r.kind + 256 * r.symbol = words_held bytes at (rel_row r) 1 h (omega arith) (omega (arith, k, s)) in
    let kind : (r.kind + 256 * r.symbol) % 256 ≡ r.kind = omega (arith, k) in
    let symbol : (r.kind + 256 * r.symbol) / 256 ≡ r.symbol = omega (arith, k) in
    rw (site, info, kind, symbol) refl

pub entries_held : (bytes : List ℕ) (at : ℕ) (rs : List Rel) (k : ℕ) (d : Rel) → Holds bytes at (table_bytes (map rel_row rs)) → All IsRelFit rs → k < length rs → rel_of (rel_entry bytes InRel (at + REL_SIZE * k)) ≡ get_or rs k d
entries_held bytes at [] k d h fit lt = absurd (omega arith)
entries_held bytes at (r ∷ rs) zero d h fit lt =
    let here : at + REL_SIZE * 0 ≡ at = omega arith in
    ap (λ n. rel_of (rel_entry bytes InRel n)) here ∙ entry_held bytes at r (front bytes at (word_bytes (rel_row r)) (table_bytes (map rel_row rs)) h) (All-head IsRelFit r rs fit)
entries_held bytes at (r ∷ rs) (suc k) d h fit lt =
    let there : at + REL_SIZE * suc k ≡ (at + 8) + REL_SIZE * k = omega arith in
    ap (λ n. rel_of (rel_entry bytes InRel n)) there
    ∙ entries_held bytes (at + 8) rs k d (behind bytes at (word_bytes (rel_row r)) (table_bytes (map rel_row rs)) h) (All-tail IsRelFit r rs fit) (omega arith)

-- ---- headers

-- a header is that of the relocations of a section, whose own header it names
pub record IsTableOf (bytes : List ℕ) (symbols : ℕ) (s : RelSection) (h : SectionHeader) : Type 0 where
  pub is_rel : h.kind ≡ SHT_REL
  pub sized : h.size ≡ REL_SIZE * length s.rels
  pub held : Holds bytes h.offset (rel_bytes s)
  pub target : (section_header bytes h.info).size ≡ s.size
  pub target_kind : (section_header bytes h.info).kind ≡ s.kind
  pub sound : IsSectionSound symbols s
  pub few : length s.rels ≤ MAX_ENTRIES
  pub kinds : All (λ r. r.kind < 2 ^ 8) s.rels

filled_le : (b : Bool) (size : ℕ) → cond b 0 size ≤ size
filled_le true size = omega arith
filled_le false size = omega arith

pub known_lt : (n symbols : ℕ) → (n == 0 || nat_lt n symbols) ≡ true → symbols ≤ MAX_ENTRIES → n < 2 ^ 24
known_lt n symbols h few =
    elim (or_cases (n == 0) (nat_lt n symbols) h) [
      | inl e ↦ omega (arith, eqb-true n 0 e)
      | inr e ↦ omega (arith, ltb-true n symbols e, few)
    ]

no_site : (b : Bool) (size site : ℕ) → site + 4 ≤ cond b 0 size → (b || nat_lt size (site + 4)) ≡ false
no_site true size site h = absurd (omega (arith, h))
no_site false size site h = le-ltb size (site + 4) h

module _ (bytes : List ℕ) (symbols : ℕ) (few_symbols : symbols ≤ MAX_ENTRIES) where
  rels_fit : (s : RelSection) → IsSectionSound symbols s → All (λ r. r.kind < 2 ^ 8) s.rels → All IsRelFit s.rels
  rels_fit s sound kinds k d lt =
      let one = sound.fills k d lt in
      let inside = one.inside in
      let le = filled_le (s.kind == SHT_NOBITS) s.size in
      let small = sound.small in
      record { site = omega (arith, inside, le, small); kind = kinds k d lt; symbol = known_lt (get_or s.rels k d).symbol symbols one.known few_symbols }

  pub count_is : (s : RelSection) (h : SectionHeader) → IsTableOf bytes symbols s h → entry_count h ≡ length s.rels
  count_is s h t = let e = t.sized in omega (arith, e)

  entry_is : (s : RelSection) (h : SectionHeader) (k : ℕ) (d : Rel) → IsTableOf bytes symbols s h → k < length s.rels → rel_of (entry_of bytes h k) ≡ get_or s.rels k d
  entry_is s h k d t lt = entries_held bytes h.offset s.rels k d t.held (rels_fit s t.sound t.kinds) lt

  pub rels_read : (s : RelSection) (h : SectionHeader) → IsTableOf bytes symbols s h → rels_in bytes h ≡ s.rels
  rels_read s h t =
      rw (count_is s h t) (lists_map (λ k. rel_of (entry_of bytes h k)) 0 s.rels (lists_from (λ k. rel_of (entry_of bytes h k)) 0 s.rels (λ k d lt.
      let e : 0 + k ≡ k = omega arith in ap (λ n. rel_of (entry_of bytes h n)) e ∙ entry_is s h k d t lt)))

  pub entry_passes : (s : RelSection) (h : SectionHeader) (k : ℕ) → IsTableOf bytes symbols s h → symbol_count bytes ≡ symbols → k < entry_count h → first_failing (entry_tests bytes h k) ≡ None
  unfolding entry_tests
  entry_passes s h k t count lt =
      let d = rel_of (entry_of bytes h k) in
      let within : k < length s.rels = let c = count_is s h t in omega (arith, c, lt) in
      let is = entry_is s h k d t within in
      let sound = t.sound.fills k d within in
      let symbol : (entry_of bytes h k).symbol ≡ (get_or s.rels k d).symbol = ap (λ (r : Rel). r.symbol) is in
      let site : (entry_of bytes h k).site ≡ (get_or s.rels k d).site = ap (λ (r : Rel). r.site) is in
      let known : ((entry_of bytes h k).symbol == 0 || nat_lt (entry_of bytes h k).symbol (symbol_count bytes)) ≡ true
      = ap (λ n. n == 0 || nat_lt n (symbol_count bytes)) symbol ∙ ap (λ n. (get_or s.rels k d).symbol == 0 || nat_lt (get_or s.rels k d).symbol n) count ∙ sound.known in
      let inside : (is_nobits (section_header bytes h.info) || nat_lt (section_header bytes h.info).size ((entry_of bytes h k).site + 4)) ≡ false
      = ap (λ n. n == SHT_NOBITS || nat_lt (section_header bytes h.info).size ((entry_of bytes h k).site + 4)) t.target_kind
      ∙ ap (λ n. s.kind == SHT_NOBITS || nat_lt n ((entry_of bytes h k).site + 4)) t.target
      ∙ ap (λ n. s.kind == SHT_NOBITS || nat_lt s.size (n + 4)) site
      ∙ no_site (s.kind == SHT_NOBITS) s.size (get_or s.rels k d).site sound.inside in
      rw (known, inside) refl

  -- ---- table by table

  -- section by section, from a place and an index on, with the header of its table
  pub Tabled : ℕ → ℕ → ℕ → List RelSection → Type 0
  Tabled symtab at i [] = Unit {0}
  Tabled symtab at i (s ∷ ss) = IsTableOf bytes symbols s (rel_header symtab at i s) × Tabled symtab (at + rel_size s) (i + 1) ss

  -- where the headers of the sections are listed
  pub tabled : (symtab at i place name : ℕ) (ss : List RelSection) → Holds bytes at (flat_map rel_bytes ss) → Lists (section_header bytes) i (kept_headers place name ss)
      → All (IsSectionSound symbols) ss → All (λ s. length s.rels ≤ MAX_ENTRIES) ss → All (λ s. All (λ r. r.kind < 2 ^ 8) s.rels) ss
      → Tabled symtab at i ss
  unfolding Tabled
  tabled symtab at i place name [] held listed sound few kinds = tt
  tabled symtab at i place name (s ∷ ss) held listed sound few kinds = (
    record {
      is_rel = refl;
      sized = refl;
      held = front bytes at (rel_bytes s) (flat_map rel_bytes ss) held;
      target = ap (λ (h : SectionHeader). h.size) listed.0;
      target_kind = ap (λ (h : SectionHeader). h.kind) listed.0;
      sound = All-head (IsSectionSound symbols) s ss sound;
      few = All-head (λ (s : RelSection). length s.rels ≤ MAX_ENTRIES) s ss few;
      kinds = All-head (λ (s : RelSection). All (λ r. r.kind < 2 ^ 8) s.rels) s ss kinds;
    },
    tabled symtab (at + rel_size s) (i + 1) (end_of place s) (string.behind name s.name) ss
        (behind_at bytes at (at + rel_size s) (rel_bytes s) (flat_map rel_bytes ss) held (ap (λ n. at + n) (length-rels s.rels))) listed.1
        (All-tail (IsSectionSound symbols) s ss sound) (All-tail (λ (s : RelSection). length s.rels ≤ MAX_ENTRIES) s ss few) (All-tail (λ (s : RelSection). All (λ r. r.kind < 2 ^ 8) s.rels) s ss kinds),
  )

  if_some : (P : SectionHeader → Type 0) (b : Bool) (h : SectionHeader) → P h → All P (cond b (h ∷ []) [])
  if_some P true h p = All-cons P h [] p (All-nil P)
  if_some P false h p = All-nil P

  -- what holds of the header of each table
  pub all_tables : (P : SectionHeader → Type 0) (symtab at i : ℕ) (ss : List RelSection)
      → ((s : RelSection) (at i : ℕ) → IsTableOf bytes symbols s (rel_header symtab at i s) → P (rel_header symtab at i s)) → Tabled symtab at i ss → All P (rel_headers symtab at i ss)
  unfolding Tabled
  all_tables P symtab at i [] each t = All-nil P
  all_tables P symtab at i (s ∷ ss) each t =
      All-append P (rel_header_if symtab at i s) (rel_headers symtab (at + rel_size s) (i + 1) ss) (if_some P (has_rels s) (rel_header symtab at i s) (each s at i t.0))
      (all_tables P symtab (at + rel_size s) (i + 1) ss each t.1)

  -- ---- the relocations of a section by its index

  abbrev pub is_rel_of : ℕ → SectionHeader → Bool
  is_rel_of i h = h.kind == SHT_REL && h.info == i

  other : (symtab at i j : ℕ) (s : RelSection) → (j ≡ i → ⊥) → is_rel_of i (rel_header symtab at j s) ≡ false
  other symtab at i j s apart = ne_eqb j i apart

  -- the tables behind are of later sections
  later_none : (symtab at i j : ℕ) (ss : List RelSection) → i < j → All (λ h. is_rel_of i h ≡ false) (rel_headers symtab at j ss)
  later_none symtab at i j [] lt = All-nil (λ h. is_rel_of i h ≡ false)
  later_none symtab at i j (s ∷ ss) lt =
      All-append (λ h. is_rel_of i h ≡ false) (rel_header_if symtab at j s) (rel_headers symtab (at + rel_size s) (j + 1) ss)
      (if_some (λ h. is_rel_of i h ≡ false) (has_rels s) (rel_header symtab at j s) (other symtab at i j s (λ e. omega (arith, e, lt)))) (later_none symtab (at + rel_size s) i (j + 1) ss (omega (arith, lt)))

  none_are : (rels : List Rel) → not (length rels == 0) ≡ false → [] ≡ rels
  none_are [] e = refl
  none_are (r ∷ rels) e = absurd (false≢true (sym e ∙ ap not (ne_eqb (suc (length rels)) 0 (λ z. omega (arith, z)))))

  one_read : (b : Bool) (i : ℕ) (h : SectionHeader) (rels : List Rel) → is_rel_of i h ≡ true → rels_in bytes h ≡ rels → (b ≡ false → [] ≡ rels) → flat_map (rels_in bytes) (filter (is_rel_of i) (cond b (h ∷ []) [])) ≡ rels
  one_read true i h rels here read none = ap (λ b. flat_map (rels_in bytes) (cond b (h ∷ []) [])) here ∙ append-nil (rels_in bytes h) ∙ read
  one_read false i h rels here read none = none refl

  pub section_read : (symtab at i : ℕ) (ss : List RelSection) (k : ℕ) (d : RelSection) → Tabled symtab at i ss → k < length ss
      → flat_map (rels_in bytes) (filter (is_rel_of (i + k)) (rel_headers symtab at i ss)) ≡ (get_or ss k d).rels
  unfolding Tabled
  section_read symtab at i [] k d t lt = absurd (omega arith)
  section_read symtab at i (s ∷ ss) zero d t lt =
      let h = rel_header symtab at i s in
      let rest = rel_headers symtab (at + rel_size s) (i + 1) ss in
      let same : i + 0 ≡ i = omega arith in
      ap (λ n. flat_map (rels_in bytes) (filter (is_rel_of n) (rel_header_if symtab at i s ++ rest))) same
      ∙ ap (flat_map (rels_in bytes)) (filter-append (is_rel_of i) (rel_header_if symtab at i s) rest
      ∙ ap (λ hs. filter (is_rel_of i) (rel_header_if symtab at i s) ++ hs) (none_kept (is_rel_of i) rest (later_none symtab (at + rel_size s) i (i + 1) ss (omega arith)))
      ∙ append-nil (filter (is_rel_of i) (rel_header_if symtab at i s)))
      ∙ one_read (has_rels s) i h s.rels (eq-eqb i i refl) (rels_read s h t.0) (none_are s.rels)
  section_read symtab at i (s ∷ ss) (suc k) d t lt =
      let rest = rel_headers symtab (at + rel_size s) (i + 1) ss in
      let there : i + suc k ≡ (i + 1) + k = omega arith in
      let p = is_rel_of ((i + 1) + k) in
      let none : All (λ h. is_rel_of ((i + 1) + k) h ≡ false) (rel_header_if symtab at i s)
      = if_some (λ h. is_rel_of ((i + 1) + k) h ≡ false) (has_rels s) (rel_header symtab at i s) (other symtab at ((i + 1) + k) i s (λ e. omega (arith, e))) in
      ap (λ n. flat_map (rels_in bytes) (filter (is_rel_of n) (rel_header_if symtab at i s ++ rest))) there
      ∙ ap (flat_map (rels_in bytes)) (filter-append (is_rel_of ((i + 1) + k)) (rel_header_if symtab at i s) rest ∙ ap (λ hs. hs ++ filter (is_rel_of ((i + 1) + k)) rest) (none_kept (is_rel_of ((i + 1) + k)) (rel_header_if symtab at i s) none))
      ∙ section_read symtab (at + rel_size s) (i + 1) ss k d t.1 (omega (arith, lt))

-- ---- how many entries there are

some_rels : (n : ℕ) (h : SectionHeader) → entry_count h ≡ n → sum_by entry_count (cond (not (n == 0)) (h ∷ []) []) ≡ n
some_rels zero h is = refl
some_rels (suc n) h is =
    let e : 0 + entry_count h ≡ suc n = omega (arith, is) in
    ap (λ b. sum_by entry_count (cond (not b) (h ∷ []) [])) (ne_eqb (suc n) 0 (λ e. omega (arith, e))) ∙ e

pub count_of_all : (symtab at i : ℕ) (ss : List RelSection) → sum_by entry_count (rel_headers symtab at i ss) ≡ sum_by (λ s. length s.rels) ss
count_of_all symtab at i [] = refl
count_of_all symtab at i (s ∷ ss) =
    let h = rel_header symtab at i s in
    let count : entry_count h ≡ length s.rels = omega arith in
    let a = sum_by-append entry_count (rel_header_if symtab at i s) (rel_headers symtab (at + rel_size s) (i + 1) ss) in
    let b = some_rels (length s.rels) h count in
    let c = count_of_all symtab (at + rel_size s) (i + 1) ss in
    let d = sum_by-cons (λ s. length s.rels) s ss in
    omega (arith, a, b, c, d)
