use Rattle.std.proofs.Common.{◌≡◌, ℕ, suc, ◌+◌, ◌*◌, Bool, true, false, cond, not, List, [], ◌∷◌, ◌++◌, length, Option, Some, None, refl, ap, ◌∙◌, arith, length-append}
use Rattle.std.specs.Prelude.{IsTrue, ◌↔◌, ◌==◌, is_some}
use Rattle.std.specs.Int.{from_bool}
use Rattle.std.specs.Option.{option_map_or}
use Rattle.std.proofs.lemmas.Bool.{ne_eqb, false≢true}
use Rattle.elf_model.specs.declared.constants.TheConstants.{DT_SONAME, DT_SYMBOLIC, DT_BIND_NOW}
use Rattle.elf_model.specs.declared.object.Object.{Object}
use Rattle.elf_write.specs.declared.entries.Entry.{Entry}
use Rattle.elf_write.specs.Strings.{behind}
use Rattle.elf_write.specs.TableSegment.{entry, needed_entries, needed_place, soname_place, rel_entries, slot_entries, flag_if, init_entries, entries, layout_of}
use Rattle.elf_write.proofs.object_layout.entry_count.Goals as goal

needed_count : (at : ℕ) (names : List (List ℕ)) → length (needed_entries at names) ≡ length names
needed_count at [] = refl
needed_count at (name ∷ names) = ap suc (needed_count (behind at (Some name)) names)

soname_count : (e : Entry) (name : Option (List ℕ)) → length (option_map_or (λ _. e ∷ []) name []) ≡ from_bool (is_some name)
soname_count e None = refl
soname_count e (Some name) = refl

flag_count : (tag : ℕ) (b : Bool) → length (flag_if tag b) ≡ from_bool b
flag_count tag true = refl
flag_count tag false = refl

-- three entries of a table, where it is not empty
table_count : (n : ℕ) (empty : Bool) (three : List Entry) → length three ≡ 3 → (IsTrue empty ↔ (n ≡ 0)) → length (cond (n == 0) [] three) ≡ 3 * from_bool (not empty)
table_count n true three long is = ap (λ m. length (cond (m == 0) [] three)) (is.0 refl)
table_count n false three long is = ap (λ b. length (cond b [] three)) (ne_eqb n 0 (λ e. false≢true (is.1 e))) ∙ long

module _ (needed soname rels slots symbolic now inits : List Entry) (a b c d e f : Entry) where
  total : (n s r l y w : ℕ) → length needed ≡ n → length soname ≡ s → length rels ≡ r → length slots ≡ l → length symbolic ≡ y → length now ≡ w
      → n + s + 5 + r + l + 1 + (y + w) + length inits ≡ length ((needed ++ soname) ++ ((a ∷ b ∷ c ∷ d ∷ e ∷ (rels ++ slots)) ++ (f ∷ (symbolic ++ (now ++ inits)))))
  total n s r l y w p1 p2 p3 p4 p5 p6 =
      let a1 = length-append (needed ++ soname) ((a ∷ b ∷ c ∷ d ∷ e ∷ (rels ++ slots)) ++ (f ∷ (symbolic ++ (now ++ inits)))) in
      let a2 = length-append needed soname in
      let a3 = length-append (a ∷ b ∷ c ∷ d ∷ e ∷ (rels ++ slots)) (f ∷ (symbolic ++ (now ++ inits))) in
      let a4 = length-append rels slots in
      let a5 = length-append symbolic (now ++ inits) in
      let a6 = length-append now inits in
      omega (arith, a1, a2, a3, a4, a5, a6)

entries_count : (o : Object) (no_rels no_slots : Bool) → (IsTrue no_rels ↔ (length o.rels ≡ 0)) → (IsTrue no_slots ↔ (length o.jmprels ≡ 0))
    → length o.needed + from_bool (is_some o.soname) + 5 + 3 * from_bool (not no_rels) + 3 * from_bool (not no_slots) + 1 + (from_bool o.symbolic + from_bool o.now) + length (init_entries o.inits) ≡ length (entries o)
entries_count o no_rels no_slots is_rels is_slots =
    let l = layout_of o in
    let s = entry DT_SONAME (soname_place o) in
    total (needed_entries (needed_place o) o.needed) (option_map_or (λ _. s ∷ []) o.soname []) (rel_entries l.rels o.rels) (slot_entries l.jmprels o.jmprels)
    (flag_if DT_SYMBOLIC o.symbolic) (flag_if DT_BIND_NOW o.now) (init_entries o.inits) _ _ _ _ _ _
    (length o.needed) (from_bool (is_some o.soname)) (3 * from_bool (not no_rels)) (3 * from_bool (not no_slots)) (from_bool o.symbolic) (from_bool o.now)
    (needed_count (needed_place o) o.needed) (soname_count s o.soname) (table_count (length o.rels) no_rels _ refl is_rels) (table_count (length o.jmprels) no_slots _ refl is_slots)
    (flag_count DT_SYMBOLIC o.symbolic) (flag_count DT_BIND_NOW o.now)

pub returns-clause-count : goal.returns-clause-count
returns-clause-count c =
    rw (c.len.ensures, c.from.ensures, c.is_some.ensures, c.from-rels.ensures, c.from-slots.ensures, c.from-2.ensures, c.from-3.ensures, c.init_count.ensures.count)
    (entries_count c.args.object.now c.is_empty.result c.is_empty-2.result c.is_empty.ensures c.is_empty-2.ensures)
