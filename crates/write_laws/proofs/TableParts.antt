-- The tables of a written object: where they stand in the file, and at which link addresses they are held.
use Rattle.std.proofs.Common.{◌≡◌, ℕ, ◌+◌, ◌-◌, ◌*◌, ◌<◌, ◌≤◌, true, false, cond, ◌&&◌, List, [], ◌∷◌, ◌++◌, length, map, All, Some, None, refl, sym, ap, ◌∙◌, subst, arith, append_assoc, length-append}
use Rattle.std.specs.Prelude.{nat_le, find, option_map}
use Rattle.std.specs.Option.{option_or}
use Rattle.std.proofs.lemmas.Bool.{le-leb, lt-leb, ne_eqb, and_from, and_right}
use Rattle.std.proofs.lemmas.List.Elements.{All-head, All-tail, All-nil, All-cons}
use Rattle.std.proofs.lemmas.List.Folds.{find-append}
use Rattle.fd_base.proofs.Finding.{find_none}
use Rattle.fd_base.specs.Words.{word_bytes}
use Rattle.elf_model.specs.declared.constants.TheConstants.{SYM_SIZE, DYN_SIZE}
use Rattle.elf_model.specs.declared.object.Object.{Object}
use Rattle.elf_model.specs.declared.object.Segment.{Segment}
use Rattle.elf_model.specs.declared.object.Symbol.{Symbol}
use Rattle.elf_model.specs.declared.table.ProgramHeader.{ProgramHeader}
use Rattle.elf_model.specs.Segments.{holds, held_at}
use Rattle.elf_write.specs.declared.entries.Entry.{Entry}
use Rattle.elf_write.specs.Words.{symbol_row, rel_row, table_bytes, zeros}
use Rattle.elf_write.specs.Strings as string
use Rattle.elf_write.specs.HashTable.{hash_words}
use Rattle.elf_write.specs.TableSegment.{memory_end, tables_vaddr, index_of, symbol_rows, name_strings, padded, fixup_words, layout_of, entries, null_entry, entry_row, tables, table_end, table_segment, with_tables}
use Rattle.elf_write.specs.ObjectFile.{offset_of, end_of, end_of_all, contents, load_header, load_headers, headers_end, tables_offset, table_offset, object_file}
use Rattle.write_laws.proofs.Holding.{Holds, front, behind_at, length-words}
use Rattle.write_laws.proofs.Parts.{length-rels}
use Rattle.write_laws.proofs.ObjectParts as part
use Rattle.write_laws.proofs.ObjectParts.{object_stands}

-- ---- segments one behind the other

contents-append : (at : ℕ) (ss ts : List Segment) → contents at (ss ++ ts) ≡ contents at ss ++ contents (end_of_all at ss) ts
contents-append at [] ts = refl
contents-append at (s ∷ ss) ts =
    ap (λ c. zeros (offset_of at s - at) ++ (s.filled ++ c)) (contents-append (end_of at s) ss ts)
    ∙ ap (λ c. zeros (offset_of at s - at) ++ c) (sym (append_assoc s.filled (contents (end_of at s) ss) (contents (end_of_all (end_of at s) ss) ts)))
    ∙ sym (append_assoc (zeros (offset_of at s - at)) (s.filled ++ contents (end_of at s) ss) (contents (end_of_all (end_of at s) ss) ts))

pub loads-append : (at : ℕ) (ss ts : List Segment) → load_headers at (ss ++ ts) ≡ load_headers at ss ++ load_headers (end_of_all at ss) ts
loads-append at [] ts = refl
loads-append at (s ∷ ss) ts = ap (λ hs. load_header at s ∷ hs) (loads-append (end_of at s) ss ts)

-- ---- where the tables stand in the file

length-symbols : (at : ℕ) (ss : List Symbol) → length (table_bytes (symbol_rows at ss)) ≡ SYM_SIZE * length ss
length-symbols at [] = refl
length-symbols at (s ∷ ss) =
    let row = symbol_row (string.place_of at s.name) (index_of s.place) s in
    let a = length-append (word_bytes row) (table_bytes (symbol_rows (string.behind at s.name) ss)) in
    let b : length (word_bytes row) ≡ 16 = length-words row in
    let c = length-symbols (string.behind at s.name) ss in
    omega (arith, a, b, c)

pub length-entries : (es : List Entry) → length (table_bytes (map entry_row es)) ≡ DYN_SIZE * length es
length-entries [] = refl
length-entries (e ∷ es) =
    let a = length-append (word_bytes (entry_row e)) (table_bytes (map entry_row es)) in
    let b : length (word_bytes (entry_row e)) ≡ 8 = length-words (entry_row e) in
    let c = length-entries es in
    omega (arith, a, b, c)

pub record TablesStand (bytes : List ℕ) (o : Object) : Type 0 where
  pub hash : Holds bytes (table_offset o (layout_of o).hash) (word_bytes (hash_words o.symbols))
  pub symbols : Holds bytes (table_offset o (layout_of o).symbols) (table_bytes (symbol_rows 1 o.symbols))
  pub strings : Holds bytes (table_offset o (layout_of o).strings) (padded (name_strings o))
  pub rels : Holds bytes (table_offset o (layout_of o).rels) (table_bytes (map rel_row o.rels))
  pub jmprels : Holds bytes (table_offset o (layout_of o).jmprels) (table_bytes (map rel_row o.jmprels))
  pub fixups : Holds bytes (table_offset o (layout_of o).fixups) (word_bytes (fixup_words o))
  pub dynamic : Holds bytes (table_offset o (layout_of o).dynamic) (table_bytes (map entry_row (entries o ++ null_entry ∷ [])))

module _ (o : Object) where
  all_tables : Holds (object_file o) (tables_offset o) (tables o)
  all_tables =
      let from = headers_end o in
      let end = end_of_all from o.segments in
      let t = table_segment o in
      let more = contents (end_of end t) [] in
      let both = subst (Holds (object_file o) from) (contents-append from o.segments (t ∷ [])) (object_stands o).filled in
      let last : Holds (object_file o) end (contents end (t ∷ [])) = behind_at (object_file o) from end (contents from o.segments) (contents end (t ∷ [])) both (part.contents_end from o.segments) in
      front (object_file o) (tables_offset o) (tables o) more (behind_at (object_file o) end (tables_offset o) (zeros (tables_offset o - end)) (tables o ++ more) last (part.padded (tables_vaddr o) 16 end))

  -- a part behind another, whose link addresses are as far apart
  next : (from to : ℕ) (a b : List ℕ) → Holds (object_file o) (table_offset o from) (a ++ b) → tables_vaddr o ≤ from → from + length a ≡ to → Holds (object_file o) (table_offset o to) b
  next from to a b h le is =
      let e : table_offset o from + length a ≡ table_offset o to = omega (arith, le, is) in
      behind_at (object_file o) (table_offset o from) (table_offset o to) a b h e

  pub tables_stand : TablesStand (object_file o) o
  unfolding tables
  tables_stand =
      let file = object_file o in
      let l = layout_of o in
      let hash = word_bytes (hash_words o.symbols) in
      let symbols = table_bytes (symbol_rows 1 o.symbols) in
      let strings = padded (name_strings o) in
      let rels = table_bytes (map rel_row o.rels) in
      let jmprels = table_bytes (map rel_row o.jmprels) in
      let fixups = word_bytes (fixup_words o) in
      let dynamic = table_bytes (map entry_row (entries o ++ null_entry ∷ [])) in
      let five = fixups ++ dynamic in
      let four = jmprels ++ five in
      let three = rels ++ four in
      let two = strings ++ three in
      let one = symbols ++ two in
      let e : tables_offset o ≡ table_offset o l.hash = omega arith in
      let from_hash : Holds file (table_offset o l.hash) (hash ++ one) = subst (λ n. Holds file n (hash ++ one)) e all_tables in
      let from_symbols : Holds file (table_offset o l.symbols) one = next l.hash l.symbols hash one from_hash (omega arith) (ap (λ n. l.hash + n) (length-words (hash_words o.symbols))) in
      let from_strings : Holds file (table_offset o l.strings) two = next l.symbols l.strings symbols two from_symbols (omega arith) (ap (λ n. l.symbols + n) (length-symbols 1 o.symbols)) in
      let from_rels : Holds file (table_offset o l.rels) three = next l.strings l.rels strings three from_strings (omega arith) refl in
      let from_jmprels : Holds file (table_offset o l.jmprels) four = next l.rels l.jmprels rels four from_rels (omega arith) (ap (λ n. l.rels + n) (length-rels o.rels)) in
      let from_fixups : Holds file (table_offset o l.fixups) five = next l.jmprels l.fixups jmprels five from_jmprels (omega arith) (ap (λ n. l.jmprels + n) (length-rels o.jmprels)) in
      let from_dynamic : Holds file (table_offset o l.dynamic) dynamic = next l.fixups l.dynamic fixups dynamic from_fixups (omega arith) (ap (λ n. l.fixups + n) (length-words (fixup_words o))) in
      record {
        hash = front file (table_offset o l.hash) hash one from_hash;
        symbols = front file (table_offset o l.symbols) symbols two from_symbols;
        strings = front file (table_offset o l.strings) strings three from_strings;
        rels = front file (table_offset o l.rels) rels four from_rels;
        jmprels = front file (table_offset o l.jmprels) jmprels five from_jmprels;
        fixups = front file (table_offset o l.fixups) fixups dynamic from_fixups;
        dynamic = from_dynamic;
      }

  -- how long they are together
  pub length-tables : tables_vaddr o + length (tables o) ≡ table_end o
  unfolding tables
  length-tables =
      let hash = word_bytes (hash_words o.symbols) in
      let symbols = table_bytes (symbol_rows 1 o.symbols) in
      let strings = padded (name_strings o) in
      let rels = table_bytes (map rel_row o.rels) in
      let jmprels = table_bytes (map rel_row o.jmprels) in
      let fixups = word_bytes (fixup_words o) in
      let dynamic = table_bytes (map entry_row (entries o ++ null_entry ∷ [])) in
      let five = fixups ++ dynamic in
      let four = jmprels ++ five in
      let three = rels ++ four in
      let two = strings ++ three in
      let one = symbols ++ two in
      let a = length-append hash one in
      let b = length-append symbols two in
      let c = length-append strings three in
      let d = length-append rels four in
      let e = length-append jmprels five in
      let f = length-append fixups dynamic in
      let a' = length-words (hash_words o.symbols) in
      let b' = length-symbols 1 o.symbols in
      let d' = length-rels o.rels in
      let e' = length-rels o.jmprels in
      let f' = length-words (fixup_words o) in
      let g' = length-entries (entries o ++ null_entry ∷ []) in
      let g = length-append (entries o) (null_entry ∷ []) in
      omega (arith, a, b, c, d, e, f, a', b', d', e', f', g', g)

-- ---- where they are held

-- a segment whose memory ends before an address doesn't hold what begins there
none_holds : (at addr n : ℕ) (ss : List Segment) → All (λ s. length s.filled ≤ s.memsz) ss → memory_end ss < addr → 0 < n → All (λ h. holds h addr n ≡ false) (load_headers at ss)
unfolding holds
none_holds at addr n [] sized above some = All-nil (λ h. holds h addr n ≡ false)
none_holds at addr n (s ∷ ss) sized above some =
    let fits = All-head (λ (s : Segment). length s.filled ≤ s.memsz) s ss sized in
    All-cons (λ h. holds h addr n ≡ false) (load_header at s) (load_headers (end_of at s) ss)
    (and_right (nat_le s.vaddr addr) (nat_le (addr + n) (s.vaddr + length s.filled)) (lt-leb (addr + n) (s.vaddr + length s.filled) (omega (arith, above, fits))))
    (none_holds (end_of at s) addr n ss (All-tail (λ (s : Segment). length s.filled ≤ s.memsz) s ss sized) (omega (arith, above)) some)

pub table_held : (o : Object) (addr n : ℕ) → All (λ s. length s.filled ≤ s.memsz) o.segments → tables_vaddr o ≤ addr → addr + n ≤ table_end o → 0 < n
    → held_at (load_headers (headers_end o) (with_tables o).segments) addr n ≡ Some (table_offset o addr)
unfolding held_at holds
table_held o addr n sized from to some =
    let end = end_of_all (headers_end o) o.segments in
    let last = load_header end (table_segment o) in
    let len = length-tables o in
    let above : memory_end o.segments < addr = omega (arith, from) in
    let none = find_none (λ h. holds h addr n) (load_headers (headers_end o) o.segments) (none_holds (headers_end o) addr n o.segments sized above some) in
    let here : (nat_le (tables_vaddr o) addr && nat_le (addr + n) (tables_vaddr o + length (tables o))) ≡ true = and_from _ _ (le-leb _ _ from) (le-leb _ _ (omega (arith, to, len))) in
    let found : find (λ h. holds h addr n) (load_headers (headers_end o) (with_tables o).segments) ≡ Some last
    = ap (find (λ h. holds h addr n)) (loads-append (headers_end o) o.segments (table_segment o ∷ []))
    ∙ find-append (λ h. holds h addr n) (load_headers (headers_end o) o.segments) (last ∷ [])
    ∙ ap (λ x. option_or x (find (λ h. holds h addr n) (last ∷ []))) none
    ∙ ap (λ b. cond b (Some last) None) here in
    ap (λ b. cond b (Some 0) (option_map (λ (h : ProgramHeader). h.offset + (addr - h.vaddr)) (find (λ h. holds h addr n) (load_headers (headers_end o) (with_tables o).segments)))) (ne_eqb n 0 (λ e. omega (arith, e, some)))
    ∙ ap (option_map (λ (h : ProgramHeader). h.offset + (addr - h.vaddr))) found
