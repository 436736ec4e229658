-- Parts that were put in their order are the tables.
use Rattle.std.proofs.Common.{◌≡◌, ℕ, List, [], ◌∷◌, ◌++◌, map, Some, sym, ap, ◌∙◌}
use Rattle.std.specs.List.{flat_map}
use Rattle.std.proofs.lemmas.Grind.{flat_map-append}
use Rattle.std.proofs.lemmas.List.{map-append}
use Rattle.fd_base.specs.Words.{word_bytes}
use Rattle.elf_model.specs.declared.object.Object.{Object}
use Rattle.elf_write.specs.declared.entries.Entry.{Entry}
use Rattle.elf_write.specs.Words.{table_bytes, rel_row}
use Rattle.elf_write.specs.Strings.{name_bytes, strings}
use Rattle.elf_write.specs.HashTable.{hash_words}
use Rattle.elf_write.specs.TableSegment.{symbol_names, name_strings, symbol_rows, padded, fixup_words, entries, name_entries, table_entries, other_entries, layout_of, null_entry, entry_row, tables}
use Rattle.elf_write.specs.parts.ObjectSizes.{entry_bytes}
use Rattle.elf_write.proofs.Joined.{joined}

pub strings_joined : (o : Object) → name_strings o ≡ strings (symbol_names o) ++ (name_bytes o.soname ++ flat_map name_bytes (map Some o.needed))
strings_joined o = ap (λ bs. 0 ∷ bs) (flat_map-append name_bytes (symbol_names o) (o.soname ∷ map Some o.needed))

-- entries behind others
pub entries_join : (xs ys : List Entry) → entry_bytes (xs ++ ys) ≡ entry_bytes xs ++ entry_bytes ys
entries_join xs ys = ap table_bytes (map-append entry_row xs ys) ∙ flat_map-append _ (map entry_row xs) (map entry_row ys)

pub entries_behind : (out a b : List ℕ) (xs ys : List Entry) → a ≡ out ++ entry_bytes xs → b ≡ a ++ entry_bytes ys → b ≡ out ++ entry_bytes (xs ++ ys)
entries_behind out a b xs ys first second =
    joined out a b (entry_bytes xs) (entry_bytes ys) first second ∙ sym (ap (λ bs. out ++ bs) (entries_join xs ys))

pub all_tables : (o : Object) (out a b c d e f g : List ℕ) → a ≡ out ++ word_bytes (hash_words o.symbols)
    → b ≡ a ++ table_bytes (symbol_rows 1 o.symbols) → c ≡ b ++ padded (name_strings o) → d ≡ c ++ table_bytes (map rel_row o.rels)
    → e ≡ d ++ table_bytes (map rel_row o.jmprels) → f ≡ e ++ word_bytes (fixup_words o) → g ≡ f ++ entry_bytes (entries o ++ null_entry ∷ []) → g ≡ out ++ tables o
unfolding tables
all_tables o out a b c d e f g p1 p2 p3 p4 p5 p6 p7 =
    let h = word_bytes (hash_words o.symbols) in
    let y = table_bytes (symbol_rows 1 o.symbols) in
    let s = padded (name_strings o) in
    let r = table_bytes (map rel_row o.rels) in
    let j = table_bytes (map rel_row o.jmprels) in
    let x = word_bytes (fixup_words o) in
    let n = entry_bytes (entries o ++ null_entry ∷ []) in
    let q6 : g ≡ e ++ (x ++ n) = joined e f g x n p6 p7 in
    let q5 : g ≡ d ++ (j ++ (x ++ n)) = joined d e g j (x ++ n) p5 q6 in
    let q4 : g ≡ c ++ (r ++ (j ++ (x ++ n))) = joined c d g r (j ++ (x ++ n)) p4 q5 in
    let q3 : g ≡ b ++ (s ++ (r ++ (j ++ (x ++ n)))) = joined b c g s (r ++ (j ++ (x ++ n))) p3 q4 in
    let q2 : g ≡ a ++ (y ++ (s ++ (r ++ (j ++ (x ++ n))))) = joined a b g y (s ++ (r ++ (j ++ (x ++ n)))) p2 q3 in
    joined out a g h (y ++ (s ++ (r ++ (j ++ (x ++ n))))) p1 q2

pub all_entries : (o : Object) (out a b c d : List ℕ) → a ≡ out ++ entry_bytes (name_entries o) → b ≡ a ++ entry_bytes (table_entries (layout_of o) o)
    → c ≡ b ++ entry_bytes (other_entries o) → d ≡ c ++ entry_bytes (null_entry ∷ []) → d ≡ out ++ entry_bytes (entries o ++ null_entry ∷ [])
all_entries o out a b c d p1 p2 p3 p4 =
    let later : c ≡ a ++ entry_bytes (table_entries (layout_of o) o ++ other_entries o) = entries_behind a b c (table_entries (layout_of o) o) (other_entries o) p2 p3 in
    let whole : c ≡ out ++ entry_bytes (entries o) = entries_behind out a c (name_entries o) (table_entries (layout_of o) o ++ other_entries o) p1 later in
    entries_behind out c d (entries o) (null_entry ∷ []) whole p4

-- seven parts of entries, of which five are one entry each
pub seven_behind : (out a b c d e f g : List ℕ) (v w x y z : Entry) (rs ss : List Entry) → a ≡ out ++ entry_bytes (v ∷ []) → b ≡ a ++ entry_bytes (w ∷ [])
    → c ≡ b ++ entry_bytes (x ∷ []) → d ≡ c ++ entry_bytes (y ∷ []) → e ≡ d ++ entry_bytes (z ∷ []) → f ≡ e ++ entry_bytes rs → g ≡ f ++ entry_bytes ss
    → g ≡ out ++ entry_bytes (v ∷ w ∷ x ∷ y ∷ z ∷ (rs ++ ss))
seven_behind out a b c d e f g v w x y z rs ss p1 p2 p3 p4 p5 p6 p7 =
    let last : g ≡ e ++ entry_bytes (rs ++ ss) = entries_behind e f g rs ss p6 p7 in
    let five : g ≡ d ++ entry_bytes (z ∷ (rs ++ ss)) = entries_behind d e g (z ∷ []) (rs ++ ss) p5 last in
    let four : g ≡ c ++ entry_bytes (y ∷ z ∷ (rs ++ ss)) = entries_behind c d g (y ∷ []) (z ∷ (rs ++ ss)) p4 five in
    let three : g ≡ b ++ entry_bytes (x ∷ y ∷ z ∷ (rs ++ ss)) = entries_behind b c g (x ∷ []) (y ∷ z ∷ (rs ++ ss)) p3 four in
    let two : g ≡ a ++ entry_bytes (w ∷ x ∷ y ∷ z ∷ (rs ++ ss)) = entries_behind a b g (w ∷ []) (x ∷ y ∷ z ∷ (rs ++ ss)) p2 three in
    entries_behind out a g (v ∷ []) (w ∷ x ∷ y ∷ z ∷ (rs ++ ss)) p1 two
