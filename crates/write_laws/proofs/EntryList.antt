-- The dynamic section of a written object: its entries are read.
use Rattle.std.proofs.Common.{◌≡◌, ℕ, ◌+◌, ◌*◌, ◌/◌, ◌^◌, ◌<◌, suc, Bool, true, false, not, cond, List, [], ◌∷◌, ◌++◌, length, map, take, All, Option, Some, None, refl, sym, ap, ◌∙◌, subst, arith, length-append}
use Rattle.std.specs.Prelude.{◌==◌, nat_lt, position, find, option_map}
use Rattle.std.specs.List.{position_or_len, range_with_len}
use Rattle.std.proofs.Math.Seq.{take-append_seam}
use Rattle.std.proofs.lemmas.Bool.{lt-ltb}
use Rattle.std.proofs.lemmas.List.Elements.{All-head, All-tail}
use Rattle.fd_base.specs.Words.{word_in, word_bytes}
use Rattle.elf_model.specs.declared.constants.TheConstants.{DYN_SIZE, DT_NULL}
use Rattle.elf_model.specs.declared.table.DynEntry.{DynEntry}
use Rattle.elf_model.specs.Dynamic.{entry_at, whole_entries, is_null, before_null, first_of, value_of}
use Rattle.elf_write.specs.declared.entries.Entry.{Entry}
use Rattle.elf_write.specs.Words.{table_bytes}
use Rattle.elf_write.specs.TableSegment.{null_entry, entry_row}
use Rattle.write_laws.proofs.Holding.{Holds, front, behind_at, words_held}
use Rattle.write_laws.proofs.Listing.{Lists, lists_map}

pub record IsEntryFit (e : Entry) : Type 0 where
  pub tag : e.tag < 2 ^ 32
  pub value : e.value < 2 ^ 32

-- entries as they stand in the file from an offset on
abbrev pub placed_at : ℕ → Entry → DynEntry
placed_at offset e = record { offset = offset; tag = e.tag; value = e.value }

abbrev pub placed : ℕ → List Entry → List DynEntry
placed offset [] = []
placed offset (e ∷ es) = placed_at offset e ∷ placed (offset + 8) es

entry_held : (bytes : List ℕ) (at : ℕ) (e : Entry) → IsEntryFit e → Holds bytes at (word_bytes (entry_row e)) → entry_at bytes at ≡ placed_at at e
unfolding entry_at
entry_held bytes at e f h =
    let tag : word_in bytes (at + 0) ≡ e.tag = words_held bytes at (entry_row e) 0 h (omega arith) f.tag in
    let value : word_in bytes (at + 4) ≡ e.value = words_held bytes at (entry_row e) 1 h (omega arith) f.value in
    rw (tag, value) refl

entries_listed : (bytes : List ℕ) (at k : ℕ) (es : List Entry) → All IsEntryFit es → Holds bytes (at + DYN_SIZE * k) (table_bytes (map entry_row es)) → Lists (λ k. entry_at bytes (at + DYN_SIZE * k)) k (placed (at + DYN_SIZE * k) es)
entries_listed bytes at k [] fit h = tt
entries_listed bytes at k (e ∷ es) fit h =
    let row = word_bytes (entry_row e) in
    let rest = table_bytes (map entry_row es) in
    let here = at + DYN_SIZE * k in
    let next : here + 8 ≡ at + DYN_SIZE * (k + 1) = omega arith in (
      entry_held bytes here e (All-head IsEntryFit e es fit) (front bytes here row rest h),
      subst (λ n. Lists (λ k. entry_at bytes (at + DYN_SIZE * k)) (k + 1) (placed n es)) (sym next)
          (entries_listed bytes at (k + 1) es (All-tail IsEntryFit e es fit) (behind_at bytes here (at + DYN_SIZE * (k + 1)) row rest h next)),
    )

pub length-placed : (offset : ℕ) (es : List Entry) → length (placed offset es) ≡ length es
length-placed offset [] = refl
length-placed offset (e ∷ es) = ap suc (length-placed (offset + 8) es)

pub placed-append : (offset : ℕ) (es fs : List Entry) → placed offset (es ++ fs) ≡ placed offset es ++ placed (offset + 8 * length es) fs
placed-append offset [] fs = let e : offset ≡ offset + 8 * 0 = omega arith in ap (λ n. placed n fs) e
placed-append offset (e ∷ es) fs =
    let n : (offset + 8) + 8 * length es ≡ offset + 8 * suc (length es) = omega arith in
    ap (λ ds. placed_at offset e ∷ ds) (placed-append (offset + 8) es fs ∙ ap (λ n. placed (offset + 8) es ++ placed n fs) n)

pub whole_read : (bytes : List ℕ) (at n : ℕ) (es : List Entry) → All IsEntryFit es → Holds bytes at (table_bytes (map entry_row es)) → n ≡ DYN_SIZE * length es → whole_entries bytes at n ≡ placed at es
whole_read bytes at n es fit h is =
    let zero_at : at + DYN_SIZE * 0 ≡ at = omega arith in
    let count : n / DYN_SIZE ≡ length (placed at es) = let l = length-placed at es in omega (arith, is, l) in
    let listed : Lists (λ k. entry_at bytes (at + DYN_SIZE * k)) 0 (placed at es)
    = subst (λ m. Lists (λ k. entry_at bytes (at + DYN_SIZE * k)) 0 (placed m es)) zero_at (entries_listed bytes at 0 es fit (subst (λ m. Holds bytes m (table_bytes (map entry_row es))) (sym zero_at) h)) in
    ap (λ m. map (λ k. entry_at bytes (at + DYN_SIZE * k)) (range_with_len 0 m)) count ∙ lists_map (λ k. entry_at bytes (at + DYN_SIZE * k)) 0 (placed at es) listed

-- ---- up to the NULL

null_place : (offset : ℕ) (es : List Entry) (rest : List DynEntry) (d : DynEntry) → All (λ e. (e.tag == DT_NULL) ≡ false) es → is_null d ≡ true → position_or_len is_null (placed offset es ++ d ∷ rest) ≡ length es
null_place offset [] rest d all here = ap (λ b. cond (not b) (1 + position_or_len is_null rest) 0) here
null_place offset (e ∷ es) rest d all here =
    let n = null_place (offset + 8) es rest d (All-tail (λ (e : Entry). (e.tag == DT_NULL) ≡ false) e es all) here in
    let one : 1 + position_or_len is_null (placed (offset + 8) es ++ d ∷ rest) ≡ suc (length es) = omega (arith, n) in
    ap (λ b. cond (not b) (1 + position_or_len is_null (placed (offset + 8) es ++ d ∷ rest)) 0) (All-head (λ (e : Entry). (e.tag == DT_NULL) ≡ false) e es all) ∙ one

pub null_found : (offset : ℕ) (es : List Entry) → All (λ e. (e.tag == DT_NULL) ≡ false) es → before_null (placed offset (es ++ null_entry ∷ [])) ≡ Some (placed offset es)
unfolding before_null
null_found offset es all =
    let d = placed_at (offset + 8 * length es) null_entry in
    let list = placed offset es ++ d ∷ [] in
    let place = null_place offset es [] d all refl in
    let len = length-append (placed offset es) (d ∷ []) in
    let len' = length-placed offset es in
    let within : nat_lt (length es) (length list) ≡ true = lt-ltb _ _ (omega (arith, len, len')) in
    let found : position is_null list ≡ Some (length es) = ap (λ n. cond (nat_lt n (length list)) (Some n) None) place ∙ ap (λ b. cond b (Some (length es)) None) within in
    let seam : take (length es) list ≡ placed offset es = ap (λ n. take n list) (sym len') ∙ take-append_seam (placed offset es) (d ∷ []) in
    ap (λ ds. option_map (λ k. take k ds) (position is_null ds)) (placed-append offset es (null_entry ∷ []))
    ∙ ap (option_map (λ k. take k list)) found
    ∙ ap Some seam

-- ---- values by tags

abbrev pub value_in : ℕ → List Entry → Option ℕ
value_in tag es = option_map (λ (e : Entry). e.value) (find (λ e. e.tag == tag) es)

pub value_read : (tag offset : ℕ) (es : List Entry) → value_of tag (placed offset es) ≡ value_in tag es
value_read tag offset [] = refl
value_read tag offset (e ∷ es) = by_test (e.tag == tag) (value_read tag (offset + 8) es)
  where
    by_test : (b : Bool) → value_of tag (placed (offset + 8) es) ≡ value_in tag es
        → option_map (λ (d : DynEntry). d.value) (cond b (Some (placed_at offset e)) (first_of tag (placed (offset + 8) es))) ≡ option_map (λ (e : Entry). e.value) (cond b (Some e) (find (λ e. e.tag == tag) es))
    by_test true rest = refl
    by_test false rest = rest
