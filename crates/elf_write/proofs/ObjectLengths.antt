-- How many bytes the parts of an object's file have.
use Rattle.std.proofs.Common.{◌≡◌, ℕ, suc, ◌+◌, ◌-◌, ◌*◌, ◌≤◌, List, [], ◌∷◌, ◌++◌, length, map, Option, Some, None, refl, ap, arith, length-append}
use Rattle.std.proofs.lemmas.List.{length-replicate}
use Rattle.std.specs.Option.{option_map_or}
use Rattle.fd_base.specs.Words.{word_bytes}
use Rattle.elf_model.specs.declared.object.Object.{Object}
use Rattle.elf_model.specs.declared.object.Segment.{Segment}
use Rattle.elf_model.specs.declared.table.ProgramHeader.{ProgramHeader}
use Rattle.elf_write.specs.declared.entries.Entry.{Entry}
use Rattle.elf_write.specs.Words.{table_bytes, header_row, program_row, section_row, rel_row, zeros}
use Rattle.elf_write.specs.HashTable.{hash_words}
use Rattle.elf_write.specs.TableSegment.{index_of, symbol_rows, padded, name_strings, fixup_words, entries, null_entry, entry_row, tables, table_end, tables_vaddr, with_tables, table_segment}
use Rattle.elf_write.specs.ObjectFile.{offset_of, end_of, end_of_all, contents, load_headers, headers_end, names_offset, names_end, sections_offset, section_strings, section_headers, sections, program_headers, dynamic_header, file_header, object_file}
use Rattle.elf_write.specs.parts.ObjectSizes.{entry_bytes, size_from}
use Rattle.elf_write.proofs.Lengths.{rows_length, symbols_length, rel_rows_length, header_rows_length}
use Rattle.elf_write.proofs.Putting.{aligned_from, offset_like_from}

words_length : (ws : List ℕ) → length (word_bytes ws) ≡ 4 * length ws
words_length [] = refl
words_length (w ∷ ws) = let rest = words_length ws in omega (arith, rest)

entries_length : (es : List Entry) → length (entry_bytes es) ≡ 8 * length es
entries_length = rows_length entry_row 8 (λ e. refl)

programs_length : (hs : List ProgramHeader) → length (table_bytes (map program_row hs)) ≡ 32 * length hs
programs_length = rows_length program_row 32 (λ h. refl)

pub tables_length : (o : Object) → length (tables o) ≡ table_end o - tables_vaddr o
unfolding tables
tables_length o =
    let h = word_bytes (hash_words o.symbols) in
    let y = table_bytes (symbol_rows 1 o.symbols) in
    let s = padded (name_strings o) in
    let r = table_bytes (map rel_row o.rels) in
    let j = table_bytes (map rel_row o.jmprels) in
    let x = word_bytes (fixup_words o) in
    let n = entry_bytes (entries o ++ null_entry ∷ []) in
    let a1 = length-append h (y ++ (s ++ (r ++ (j ++ (x ++ n))))) in
    let a2 = length-append y (s ++ (r ++ (j ++ (x ++ n)))) in
    let a3 = length-append s (r ++ (j ++ (x ++ n))) in
    let a4 = length-append r (j ++ (x ++ n)) in
    let a5 = length-append j (x ++ n) in
    let a6 = length-append x n in
    let lh = words_length (hash_words o.symbols) in
    let ly = symbols_length index_of symbol_rows (λ at. refl) (λ at s ss. refl) 1 o.symbols in
    let lr = rel_rows_length o.rels in
    let lj = rel_rows_length o.jmprels in
    let lx = words_length (fixup_words o) in
    let ln = entries_length (entries o ++ null_entry ∷ []) in
    let count = length-append (entries o) (null_entry ∷ []) in
    omega (arith, a1, a2, a3, a4, a5, a6, lh, ly, lr, lj, lx, ln, count)

-- ---- segments

pub offset_from : (at : ℕ) (s : Segment) → at ≤ offset_of at s
offset_from at s = offset_like_from s.vaddr s.align at

pub contents_length : (at : ℕ) (ss : List Segment) → at + length (contents at ss) ≡ end_of_all at ss
contents_length at [] = omega arith
contents_length at (s ∷ ss) =
    let rest = contents_length (end_of at s) ss in
    let from = offset_from at s in
    let a = length-append (zeros (offset_of at s - at)) (s.filled ++ contents (end_of at s) ss) in
    let b = length-append s.filled (contents (end_of at s) ss) in
    let z : length (zeros (offset_of at s - at)) ≡ offset_of at s - at = length-replicate (offset_of at s - at) 0 in
    omega (arith, rest, from, a, b, z)

loads_count : (at : ℕ) (ss : List Segment) → length (load_headers at ss) ≡ length ss
loads_count at [] = refl
loads_count at (s ∷ ss) = ap suc (loads_count (end_of at s) ss)

pub programs_count : (o : Object) → length (program_headers o) ≡ length o.segments + 2
programs_count o =
    let all = length-append (load_headers (headers_end o) (with_tables o).segments) (dynamic_header o ∷ []) in
    let loads = loads_count (headers_end o) (with_tables o).segments in
    let segments = length-append o.segments (table_segment o ∷ []) in
    omega (arith, all, loads, segments)

-- ---- the whole

sections_length : (o : Object) (fixups : Option (List ℕ)) → names_offset o + length (option_map_or (sections o) fixups []) ≡ size_from (names_offset o) (sections_offset o) fixups
sections_length o None = omega arith
sections_length o (Some fixups) =
    let gap = zeros (sections_offset o - names_end o) in
    let rows = table_bytes (map section_row (section_headers o fixups)) in
    let a = length-append section_strings (gap ++ rows) in
    let b = length-append gap rows in
    let z : length gap ≡ sections_offset o - names_end o = length-replicate (sections_offset o - names_end o) 0 in
    let from = aligned_from 4 (names_end o) in
    let r = header_rows_length (section_headers o fixups) in
    omega (arith, a, b, z, from, r)

pub file_length : (o : Object) → length (object_file o) ≡ size_from (names_offset o) (sections_offset o) o.fixups
unfolding object_file
file_length o =
    let h = word_bytes (header_row (file_header o)) in
    let p = table_bytes (map program_row (program_headers o)) in
    let c = contents (headers_end o) (with_tables o).segments in
    let s = option_map_or (sections o) o.fixups [] in
    let a1 = length-append h (p ++ (c ++ s)) in
    let a2 = length-append p (c ++ s) in
    let a3 = length-append c s in
    let lp = programs_length (program_headers o) in
    let count = programs_count o in
    let lc = contents_length (headers_end o) (with_tables o).segments in
    let ls = sections_length o o.fixups in
    omega (arith, a1, a2, a3, lp, count, lc, ls)
