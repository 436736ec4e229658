-- The relocations of a written object: their tables are read.
use Rattle.std.proofs.Common.{◌≡◌, ◌≢◌, ℕ, ◌+◌, ◌*◌, ◌/◌, ◌%◌, ◌^◌, ◌<◌, ◌≤◌, zero, suc, Bool, true, false, not, cond, List, [], ◌∷◌, ◌++◌, length, get_or, map, All, Option, Some, None, refl, sym, ap, ◌∙◌, subst, arith, inl, inr}
use Rattle.std.specs.Prelude.{◌==◌, nat_lt, nat_le, filter, option_map, is_none, unwrap_or}
use Rattle.std.specs.Option.{option_map_or}
use Rattle.std.specs.List.{list_any, range_with_len}
use Rattle.std.proofs.lemmas.Bool.{le-ltb, lt-leb, ne_eqb, eq-eqb, eqb-true, or_cases, and_left, cases_lt, false≢true}
use Rattle.std.proofs.lemmas.List.Elements.{All-head, All-tail, All-nil, All-cons}
use Rattle.fd_base.specs.Ranges.{spans}
use Rattle.fd_base.specs.Words.{word_in, word_bytes}
use Rattle.elf_model.specs.declared.constants.TheConstants.{REL_SIZE, MAX_ENTRIES, R_ARM_NONE, DT_REL, DT_RELSZ, DT_JMPREL, DT_PLTRELSZ}
use Rattle.elf_model.specs.declared.refusal.ElfKind.TheVariants as refusal
use Rattle.elf_model.specs.declared.object.Object.{Object}
use Rattle.elf_model.specs.declared.object.Rel.{Rel}
use Rattle.elf_model.specs.declared.table.DynEntry.{DynEntry}
use Rattle.elf_model.specs.declared.table.RelEntry.{RelEntry}
use Rattle.elf_model.specs.declared.table.RelTable.{RelTable}
use Rattle.elf_model.specs.declared.table.RelTable.TheVariants.{Rel as InRel, JmpRel as InJmpRel}
use Rattle.elf_model.specs.Test.{refuses, of_some, first_failing}
use Rattle.elf_model.specs.Segments.{loads, held_at}
use Rattle.elf_model.specs.Dynamic.{first_of, value_of}
use Rattle.elf_model.specs.Relocations as rel
use Rattle.elf_model.specs.Relocations.{rel_table_at, rel_table_tests, both_table_tests, rel_entry, is_slot_entry, own_places, entries_at, is_kind_of, kinds_of, fills, rel_of, rels_of}
use Rattle.elf_model.specs.Fields as field
use Rattle.elf_model.proofs.Passing.{both}
use Rattle.elf_write.specs.declared.limits.TheConstants.{MAX_FILE_BYTES}
use Rattle.elf_write.specs.Words.{rel_row, table_bytes}
use Rattle.elf_write.specs.TableSegment.{entries, layout_of, tables_vaddr, table_end}
use Rattle.elf_write.specs.ObjectFile.{table_offset, object_file}
use Rattle.elf_write.specs.WritableObject.{IsWritableObject, IsRelWritable}
use Rattle.write_laws.specs.ObjectReadBack.{FitsObjectFields}
use Rattle.write_laws.proofs.Holding.{Holds, front, behind_at, words_held}
use Rattle.write_laws.proofs.Listing.{Lists, lists_map}
use Rattle.write_laws.proofs.Tables.{IsRelFit, known_lt}
use Rattle.write_laws.proofs.EntryList.{value_in}
use Rattle.write_laws.proofs.TableParts.{tables_stand}
use Rattle.write_laws.proofs.OptionalValues.{rels_value, rels_size_value, slots_value, slots_size_value}
use Rattle.write_laws.proofs.ObjectStrings.{value_is, first_is}
use Rattle.write_laws.proofs.ObjectCount.{held_in}

-- ---- entries

-- a relocation as it stands in a table at an offset of the file
abbrev pub rel_placed_at : RelTable → ℕ → Rel → RelEntry
rel_placed_at table offset r = record { table = table; offset = offset; site = r.site; kind = r.kind; symbol = r.symbol }

abbrev pub rels_placed : RelTable → ℕ → List Rel → List RelEntry
rels_placed table offset [] = []
rels_placed table offset (r ∷ rs) = rel_placed_at table offset r ∷ rels_placed table (offset + 8) rs

pub length-rels_placed : (table : RelTable) (offset : ℕ) (rs : List Rel) → length (rels_placed table offset rs) ≡ length rs
length-rels_placed table offset [] = refl
length-rels_placed table offset (r ∷ rs) = ap suc (length-rels_placed table (offset + 8) rs)

rel_held : (bytes : List ℕ) (table : RelTable) (at : ℕ) (r : Rel) → Holds bytes at (word_bytes (rel_row r)) → IsRelFit r → rel_entry bytes table at ≡ rel_placed_at table at r
unfolding rel_entry
rel_held bytes table at r h f =
    let k = f.kind in
    let s = f.symbol in
    let site : word_in bytes (at + 0) ≡ r.site = words_held bytes at (rel_row r) 0 h (omega arith) f.site in
    let info : word_in bytes (at + 4) ≡ r.kind + 256 * r.symbol = words_held bytes at (rel_row r) 1 h (omega arith) (omega (arith, k, s)) in
    let kind : (r.kind + 256 * r.symbol) % 256 ≡ r.kind = omega (arith, k) in
    let symbol : (r.kind + 256 * r.symbol) / 256 ≡ r.symbol = omega (arith, k) in
    rw (site, info, kind, symbol) refl

rels_listed : (bytes : List ℕ) (table : RelTable) (at k : ℕ) (rs : List Rel) → All IsRelFit rs → Holds bytes (at + REL_SIZE * k) (table_bytes (map rel_row rs)) → Lists (λ k. rel_entry bytes table (at + REL_SIZE * k)) k (rels_placed table (at + REL_SIZE * k) rs)
rels_listed bytes table at k [] fit h = tt
rels_listed bytes table at k (r ∷ rs) fit h =
    let row = word_bytes (rel_row r) in
    let rest = table_bytes (map rel_row rs) in
    let here = at + REL_SIZE * k in
    let next : here + 8 ≡ at + REL_SIZE * (k + 1) = omega arith in (
      rel_held bytes table here r (front bytes here row rest h) (All-head IsRelFit r rs fit),
      subst (λ n. Lists (λ k. rel_entry bytes table (at + REL_SIZE * k)) (k + 1) (rels_placed table n rs)) (sym next)
          (rels_listed bytes table at (k + 1) rs (All-tail IsRelFit r rs fit) (behind_at bytes here (at + REL_SIZE * (k + 1)) row rest h next)),
    )

all_rels_read : (bytes : List ℕ) (table : RelTable) (at : ℕ) (rs : List Rel) → All IsRelFit rs → Holds bytes at (table_bytes (map rel_row rs)) → entries_at bytes table at (range_with_len 0 (length rs)) ≡ rels_placed table at rs
all_rels_read bytes table at rs fit h =
    let read = λ (k : ℕ). rel_entry bytes table (at + REL_SIZE * k) in
    let zero_at : at + REL_SIZE * 0 ≡ at = omega arith in
    let listed : Lists read 0 (rels_placed table at rs)
    = subst (λ m. Lists read 0 (rels_placed table m rs)) zero_at (rels_listed bytes table at 0 rs fit (subst (λ m. Holds bytes m (table_bytes (map rel_row rs))) (sym zero_at) h)) in
    ap (λ n. map read (range_with_len 0 n)) (sym (length-rels_placed table at rs)) ∙ lists_map read 0 (rels_placed table at rs) listed

-- those of relocations that fill something are these
pub fill_all : (table : RelTable) (offset : ℕ) (rs : List Rel) → All (λ r. r.kind ≢ R_ARM_NONE) rs → All (λ e. fills e ≡ true) (rels_placed table offset rs)
fill_all table offset [] some = All-nil (λ e. fills e ≡ true)
fill_all table offset (r ∷ rs) some =
    All-cons (λ e. fills e ≡ true) (rel_placed_at table offset r) (rels_placed table (offset + 8) rs) (ap not (ne_eqb r.kind R_ARM_NONE (All-head (λ (r : Rel). r.kind ≢ R_ARM_NONE) r rs some)))
    (fill_all table (offset + 8) rs (All-tail (λ (r : Rel). r.kind ≢ R_ARM_NONE) r rs some))

pub rels_of_placed : (table : RelTable) (offset : ℕ) (rs : List Rel) → All (λ r. r.kind ≢ R_ARM_NONE) rs → rels_of (rels_placed table offset rs) ≡ rs
rels_of_placed table offset [] some = refl
rels_of_placed table offset (r ∷ rs) some =
    let rest = filter fills (rels_placed table (offset + 8) rs) in
    let here : fills (rel_placed_at table offset r) ≡ true = ap not (ne_eqb r.kind R_ARM_NONE (All-head (λ (r : Rel). r.kind ≢ R_ARM_NONE) r rs some)) in
    ap (λ b. map rel_of (cond b (rel_placed_at table offset r ∷ rest) rest)) here ∙ ap (λ xs. r ∷ xs) (rels_of_placed table (offset + 8) rs (All-tail (λ (r : Rel). r.kind ≢ R_ARM_NONE) r rs some))

-- ---- numbers of entries

known_small : (ks : List ℕ) (kind bound : ℕ) → All (λ k. k < bound) ks → list_any (λ k. k == kind) ks ≡ true → kind < bound
known_small [] kind bound small h = absurd (false≢true h)
known_small (k ∷ ks) kind bound small h =
    elim (or_cases (k == kind) (list_any (λ k. k == kind) ks) h) [
      | inl e ↦ let here = All-head (λ k. k < bound) k ks small in let same = eqb-true k kind e in omega (arith, here, same)
      | inr later ↦ known_small ks kind bound (All-tail (λ k. k < bound) k ks small) later
    ]

kinds_small : All (λ k. k < 256) (kinds_of InRel)
kinds_small =
    All-cons (λ k. k < 256) 0 (2 ∷ 3 ∷ 21 ∷ 23 ∷ 163 ∷ 164 ∷ []) (omega arith) (All-cons (λ k. k < 256) 2 (3 ∷ 21 ∷ 23 ∷ 163 ∷ 164 ∷ []) (omega arith) (All-cons (λ k. k < 256) 3 (21 ∷ 23 ∷ 163 ∷ 164 ∷ []) (omega arith)
    (All-cons (λ k. k < 256) 21 (23 ∷ 163 ∷ 164 ∷ []) (omega arith) (All-cons (λ k. k < 256) 23 (163 ∷ 164 ∷ []) (omega arith) (All-cons (λ k. k < 256) 163 (164 ∷ []) (omega arith) (All-cons (λ k. k < 256) 164 [] (omega arith) (All-nil (λ k. k < 256))))))))

-- ---- places

range_kept : (p : ℕ → Bool) (a n : ℕ) → ((k : ℕ) → a ≤ k → k < a + n → p k ≡ true) → filter p (range_with_len a n) ≡ range_with_len a n
range_kept p a zero each = refl
range_kept p a (suc n) each =
    ap (λ b. cond b (a ∷ filter p (range_with_len (a + 1) n)) (filter p (range_with_len (a + 1) n))) (each a (omega arith) (omega arith))
    ∙ ap (λ ns. a ∷ ns) (range_kept p (a + 1) n (λ k ge lt. each k (omega (arith, ge)) (omega (arith, lt))))

some_value : (n v : ℕ) → 0 < n → cond (n == 0) None (Some v) ≡ Some v
some_value n v some = ap (λ b. cond b None (Some v)) (ne_eqb n 0 (λ e. omega (arith, e, some)))

no_value : (n v : ℕ) → n ≡ 0 → cond (n == 0) None (Some v) ≡ None
no_value n v none = ap (λ b. cond b None (Some v)) (eq-eqb n 0 none)

none_there : (rs : List Rel) → length rs ≤ 0 → [] ≡ rs
none_there [] none = refl
none_there (r ∷ rs) none = absurd (omega (arith, none))

none_first : (tag : ℕ) (es : List DynEntry) → value_of tag es ≡ None → first_of tag es ≡ None
none_first tag es is = by_option (first_of tag es) is
  where
    by_option : (p : Option DynEntry) → option_map (λ (e : DynEntry). e.value) p ≡ None → p ≡ None
    by_option None e = refl
    by_option (Some d) e = absurd cc

module _ (o : Object) (w : IsWritableObject o) (f : FitsObjectFields o) (short : length (object_file o) ≤ MAX_FILE_BYTES) where
  fit : (rs : List Rel) → All (IsRelWritable (length o.symbols)) rs → All (λ r. r.site < 2 ^ 32) rs → All IsRelFit rs
  fit rs writable sites k d lt =
      let one = writable k d lt in
      record { site = sites k d lt; kind = known_small (kinds_of InRel) (get_or rs k d).kind 256 kinds_small one.known_kind; symbol = known_lt (get_or rs k d).symbol (length o.symbols) one.known_symbol w.few_symbols }

  -- ---- each table

  table_passes : (tag size_tag addr : ℕ) (rs : List Rel) → value_in tag (entries o) ≡ cond (length rs == 0) None (Some addr) → value_in size_tag (entries o) ≡ cond (length rs == 0) None (Some (REL_SIZE * length rs))
      → tables_vaddr o ≤ addr → addr + REL_SIZE * length rs ≤ table_end o → length rs ≤ MAX_ENTRIES → first_failing (rel_table_tests (loads (object_file o)) (field.entries (object_file o)) tag size_tag) ≡ None
  unfolding rel_table_tests rel_table_at
  table_passes tag size_tag addr rs is sized from to few =
      let file = object_file o in
      let hs = loads file in
      let es = field.entries file in
      let n = REL_SIZE * length rs in
      let tests = λ (e : DynEntry). refuses refusal.Table e.offset (is_none (rel_table_at hs e.value (value_of size_tag es))) ∷ refuses refusal.TooMany e.offset (nat_lt MAX_ENTRIES (unwrap_or (value_of size_tag es) 0 / REL_SIZE)) ∷ [] in
      elim (cases_lt 0 (length rs)) [
        | inl some ↦
            let one = first_is o w f short tag addr (is ∙ some_value (length rs) addr some) in
            let size : value_of size_tag es ≡ Some n = value_is o w f short size_tag ∙ sized ∙ some_value (length rs) n some in
            let whole : (n % REL_SIZE == 0) ≡ true = eq-eqb (n % REL_SIZE) 0 (omega arith) in
            let held : rel_table_at hs addr (Some n) ≡ Some (table_offset o addr) = ap (λ b. cond b (held_at hs addr n) None) whole ∙ held_in o w f short addr n from to (omega (arith, some)) in
            let many : nat_lt MAX_ENTRIES (n / REL_SIZE) ≡ false = le-ltb _ _ (omega (arith, few)) in
            ap (λ p. first_failing (of_some p tests)) one.1
            ∙ ap (λ v. first_failing (refuses refusal.Table (one.0).offset (is_none (rel_table_at hs v (value_of size_tag es))) ∷ refuses refusal.TooMany (one.0).offset (nat_lt MAX_ENTRIES (unwrap_or (value_of size_tag es) 0 / REL_SIZE)) ∷ [])) one.2
            ∙ ap (λ s. first_failing (refuses refusal.Table (one.0).offset (is_none (rel_table_at hs addr s)) ∷ refuses refusal.TooMany (one.0).offset (nat_lt MAX_ENTRIES (unwrap_or s 0 / REL_SIZE)) ∷ [])) size
            ∙ ap (λ p. first_failing (refuses refusal.Table (one.0).offset (is_none p) ∷ refuses refusal.TooMany (one.0).offset (nat_lt MAX_ENTRIES (n / REL_SIZE)) ∷ [])) held
            ∙ ap (λ b. first_failing (refuses refusal.Table (one.0).offset false ∷ refuses refusal.TooMany (one.0).offset b ∷ [])) many
        | inr none ↦ ap (λ p. first_failing (of_some p tests)) (none_first tag es (value_is o w f short tag ∙ is ∙ no_value (length rs) addr (omega (arith, none))))
      ]

  pub tables_pass : first_failing (both_table_tests (loads (object_file o)) (field.entries (object_file o))) ≡ None
  unfolding both_table_tests
  tables_pass =
      let hs = loads (object_file o) in
      let es = field.entries (object_file o) in
      both (rel_table_tests hs es DT_REL DT_RELSZ) (rel_table_tests hs es DT_JMPREL DT_PLTRELSZ)
      (table_passes DT_REL DT_RELSZ (layout_of o).rels o.rels (rels_value o) (rels_size_value o) (omega arith) (omega arith) w.sound.few_rels)
      (table_passes DT_JMPREL DT_PLTRELSZ (layout_of o).jmprels o.jmprels (slots_value o) (slots_size_value o) (omega arith) (omega arith) w.sound.few_slots)

  -- no entry of DT_REL is one of a slot
  not_slot : (addr : ℕ) → addr < (layout_of o).jmprels → is_slot_entry (field.entries (object_file o)) addr ≡ false
  unfolding is_slot_entry
  not_slot addr below =
      let es = field.entries (object_file o) in
      let n = unwrap_or (value_of DT_PLTRELSZ es) 0 in
      ap (λ p. option_map_or (λ first. spans first n addr REL_SIZE) p false) (value_is o w f short DT_JMPREL ∙ slots_value o)
      ∙ elim (cases_lt 0 (length o.jmprels)) [
        | inl some ↦
            ap (λ p. option_map_or (λ first. spans first n addr REL_SIZE) p false) (some_value (length o.jmprels) (layout_of o).jmprels some)
            ∙ and_left (nat_le (layout_of o).jmprels addr) (nat_le (addr + REL_SIZE) ((layout_of o).jmprels + n)) (lt-leb _ _ below)
        | inr none ↦ ap (λ p. option_map_or (λ first. spans first n addr REL_SIZE) p false) (no_value (length o.jmprels) (layout_of o).jmprels (omega (arith, none)))
      ]

  own_all : own_places (field.entries (object_file o)) (layout_of o).rels (REL_SIZE * length o.rels) ≡ range_with_len 0 (length o.rels)
  own_all =
      let es = field.entries (object_file o) in
      let l = layout_of o in
      let p = λ (k : ℕ). not (is_slot_entry es (l.rels + REL_SIZE * k)) in
      let count : (REL_SIZE * length o.rels) / REL_SIZE ≡ length o.rels = omega arith in
      ap (λ n. filter p (range_with_len 0 n)) count ∙ range_kept p 0 (length o.rels) (λ k ge lt. ap not (not_slot (l.rels + REL_SIZE * k) (omega (arith, lt))))

  rel_entries_are : field.rel_entries (object_file o) ≡ rels_placed InRel (table_offset o (layout_of o).rels) o.rels
  unfolding field.rel_entries rel.rel_entries
  rel_entries_are =
      let file = object_file o in
      let hs = loads file in
      let es = field.entries file in
      let l = layout_of o in
      let n = REL_SIZE * length o.rels in
      let read = λ (addr : ℕ). entries_at file InRel (unwrap_or (held_at hs addr (unwrap_or (value_of DT_RELSZ es) 0)) 0) (own_places es addr (unwrap_or (value_of DT_RELSZ es) 0)) in
      elim (cases_lt 0 (length o.rels)) [
        | inl some ↦
            ap (λ p. option_map_or read p []) (value_is o w f short DT_REL ∙ rels_value o ∙ some_value (length o.rels) l.rels some)
            ∙ ap (λ s. entries_at file InRel (unwrap_or (held_at hs l.rels (unwrap_or s 0)) 0) (own_places es l.rels (unwrap_or s 0))) (value_is o w f short DT_RELSZ ∙ rels_size_value o ∙ some_value (length o.rels) n some)
            ∙ ap (λ h. entries_at file InRel (unwrap_or h 0) (own_places es l.rels n)) (held_in o w f short l.rels n (omega arith) (omega arith) (omega (arith, some)))
            ∙ ap (entries_at file InRel (table_offset o l.rels)) own_all
            ∙ all_rels_read file InRel (table_offset o l.rels) o.rels (fit o.rels w.writable_rels f.sites) (tables_stand o).rels
        | inr none ↦
            ap (λ p. option_map_or read p []) (value_is o w f short DT_REL ∙ rels_value o ∙ no_value (length o.rels) l.rels (omega (arith, none)))
            ∙ ap (rels_placed InRel (table_offset o l.rels)) (none_there o.rels none)
      ]

  jmprel_entries_are : field.jmprel_entries (object_file o) ≡ rels_placed InJmpRel (table_offset o (layout_of o).jmprels) o.jmprels
  unfolding field.jmprel_entries rel.jmprel_entries
  jmprel_entries_are =
      let file = object_file o in
      let hs = loads file in
      let es = field.entries file in
      let l = layout_of o in
      let n = REL_SIZE * length o.jmprels in
      let count : n / REL_SIZE ≡ length o.jmprels = omega arith in
      let read = λ (addr : ℕ). entries_at file InJmpRel (unwrap_or (held_at hs addr (unwrap_or (value_of DT_PLTRELSZ es) 0)) 0) (range_with_len 0 (unwrap_or (value_of DT_PLTRELSZ es) 0 / REL_SIZE)) in
      elim (cases_lt 0 (length o.jmprels)) [
        | inl some ↦
            ap (λ p. option_map_or read p []) (value_is o w f short DT_JMPREL ∙ slots_value o ∙ some_value (length o.jmprels) l.jmprels some)
            ∙ ap (λ s. entries_at file InJmpRel (unwrap_or (held_at hs l.jmprels (unwrap_or s 0)) 0) (range_with_len 0 (unwrap_or s 0 / REL_SIZE))) (value_is o w f short DT_PLTRELSZ ∙ slots_size_value o ∙ some_value (length o.jmprels) n some)
            ∙ ap (λ h. entries_at file InJmpRel (unwrap_or h 0) (range_with_len 0 (n / REL_SIZE))) (held_in o w f short l.jmprels n (omega arith) (omega arith) (omega (arith, some)))
            ∙ ap (λ m. entries_at file InJmpRel (table_offset o l.jmprels) (range_with_len 0 m)) count
            ∙ all_rels_read file InJmpRel (table_offset o l.jmprels) o.jmprels (fit o.jmprels w.writable_slots f.slot_sites) (tables_stand o).jmprels
        | inr none ↦
            ap (λ p. option_map_or read p []) (value_is o w f short DT_JMPREL ∙ slots_value o ∙ no_value (length o.jmprels) l.jmprels (omega (arith, none)))
            ∙ ap (rels_placed InJmpRel (table_offset o l.jmprels)) (none_there o.jmprels none)
      ]

  pub all_entries_are : field.all_rel_entries (object_file o) ≡ rels_placed InRel (table_offset o (layout_of o).rels) o.rels ++ rels_placed InJmpRel (table_offset o (layout_of o).jmprels) o.jmprels
  unfolding field.all_rel_entries field.rel_entries field.jmprel_entries
  all_entries_are =
      ap (λ es. es ++ field.jmprel_entries (object_file o)) rel_entries_are ∙ ap (λ es. rels_placed InRel (table_offset o (layout_of o).rels) o.rels ++ es) jmprel_entries_are

  pub rels_are_read : rels_of (field.rel_entries (object_file o)) ≡ o.rels
  rels_are_read = ap rels_of rel_entries_are ∙ rels_of_placed InRel (table_offset o (layout_of o).rels) o.rels (λ k d lt. (w.writable_rels k d lt).fills)

  pub jmprels_are_read : rels_of (field.jmprel_entries (object_file o)) ≡ o.jmprels
  jmprels_are_read = ap rels_of jmprel_entries_are ∙ rels_of_placed InJmpRel (table_offset o (layout_of o).jmprels) o.jmprels (λ k d lt. (w.writable_slots k d lt).fills)
