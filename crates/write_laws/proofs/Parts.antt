-- Where the parts of a written file stand.
use Rattle.std.proofs.Common.{◌≡◌, ℕ, ◌+◌, ◌-◌, ◌*◌, ◌≤◌, List, [], ◌∷◌, ◌++◌, length, map, refl, ap, ◌∙◌, arith, length-append}
use Rattle.std.specs.List.{flat_map, sum_by}
use Rattle.std.proofs.lemmas.List.{length-replicate}
use Rattle.std.proofs.lemmas.List.Sums.{sum_by-cons}
use Rattle.fd_base.specs.Words.{word_bytes}
use Rattle.elf_model.specs.declared.constants.TheConstants.{EHDR_SIZE, SHDR_SIZE, SYM_SIZE, REL_SIZE}
use Rattle.elf_model.specs.declared.object.Rel.{Rel}
use Rattle.elf_model.specs.declared.object.Symbol.{Symbol}
use Rattle.elf_model.specs.declared.relocatable.RelObject.{RelObject}
use Rattle.elf_model.specs.declared.relocatable.RelSection.{RelSection}
use Rattle.elf_model.specs.declared.table.SectionHeader.{SectionHeader}
use Rattle.elf_write.specs.Words.{header_row, section_row, symbol_row, rel_row, table_bytes, zeros, aligned}
use Rattle.elf_write.specs.Strings as string
use Rattle.elf_write.specs.RelFile.{end_of, end_of_all, contents, rel_bytes, index_of, symbol_rows, symbol_strings, section_strings, headers_of, layout_of, file_header, rel_file}
use Rattle.write_laws.proofs.Holding.{Holds, front, behind_at, whole, length-words}

-- ---- how long they are

pub length-rels : (rels : List Rel) → length (table_bytes (map rel_row rels)) ≡ REL_SIZE * length rels
length-rels [] = refl
length-rels (x ∷ xs) =
    let a = length-append (word_bytes (rel_row x)) (table_bytes (map rel_row xs)) in
    let b : length (word_bytes (rel_row x)) ≡ 8 = length-words (rel_row x) in
    let c = length-rels xs in
    omega (arith, a, b, c)

length-all_rels : (ss : List RelSection) → length (flat_map rel_bytes ss) ≡ REL_SIZE * sum_by (λ s. length s.rels) ss
length-all_rels [] = refl
length-all_rels (s ∷ ss) =
    let a = length-append (rel_bytes s) (flat_map rel_bytes ss) in
    let b = length-rels s.rels in
    let c = length-all_rels ss in
    let d = sum_by-cons (λ s. length s.rels) s ss in
    omega (arith, a, b, c, d)

length-symbols : (at : ℕ) (ss : List Symbol) → length (table_bytes (symbol_rows at ss)) ≡ SYM_SIZE * length ss
length-symbols at [] = refl
length-symbols at (s ∷ ss) =
    let row = symbol_row (string.place_of at s.name) (index_of s.place) s in
    let a = length-append (word_bytes row) (table_bytes (symbol_rows (string.behind at s.name) ss)) in
    let b : length (word_bytes row) ≡ 16 = length-words row in
    let c = length-symbols (string.behind at s.name) ss in
    omega (arith, a, b, c)

pub length-headers : (hs : List SectionHeader) → length (table_bytes (map section_row hs)) ≡ SHDR_SIZE * length hs
length-headers [] = refl
length-headers (h ∷ hs) =
    let a = length-append (word_bytes (section_row h)) (table_bytes (map section_row hs)) in
    let b : length (word_bytes (section_row h)) ≡ 40 = length-words (section_row h) in
    let c = length-headers hs in
    omega (arith, a, b, c)

pub not_before : (align at : ℕ) → at ≤ aligned align at
not_before align at = omega arith

pub padded : (align at : ℕ) → at + length (zeros (aligned align at - at)) ≡ aligned align at
padded align at =
    let z : length (zeros (aligned align at - at)) ≡ aligned align at - at = length-replicate (aligned align at - at) 0 in
    let l = not_before align at in
    omega (arith, z, l)

contents_end : (at : ℕ) (ss : List RelSection) → at + length (contents at ss) ≡ end_of_all at ss
contents_end at [] = let e : at + 0 ≡ at = omega arith in e
contents_end at (s ∷ ss) =
    let rest = contents_end (end_of at s) ss in
    let a = length-append (zeros (aligned s.align at - at)) (s.filled ++ contents (end_of at s) ss) in
    let b = length-append s.filled (contents (end_of at s) ss) in
    let z = padded s.align at in
    let sum : at + length (contents at (s ∷ ss)) ≡ end_of at s + length (contents (end_of at s) ss) = omega (arith, a, b, z) in
    sum ∙ rest

-- ---- where they stand

pub record Stands (bytes : List ℕ) (r : RelObject) : Type 0 where
  pub header : Holds bytes 0 (word_bytes (header_row (file_header (layout_of r))))
  pub filled : Holds bytes EHDR_SIZE (contents EHDR_SIZE r.sections)
  pub rels : Holds bytes (layout_of r).rels (flat_map rel_bytes r.sections)
  pub symbols : Holds bytes (layout_of r).symbols (table_bytes (symbol_rows 1 r.symbols))
  pub strings : Holds bytes (layout_of r).strings (symbol_strings r)
  pub names : Holds bytes (layout_of r).names (section_strings r)
  pub headers : Holds bytes (layout_of r).headers (table_bytes (map section_row (headers_of r)))

pub stands : (r : RelObject) → Stands (rel_file r) r
unfolding rel_file
stands r =
    let bytes = rel_file r in
    let l = layout_of r in
    let head = word_bytes (header_row (file_header l)) in
    let filled = contents EHDR_SIZE r.sections in
    let rels = flat_map rel_bytes r.sections in
    let symbols = table_bytes (symbol_rows 1 r.symbols) in
    let headers = table_bytes (map section_row (headers_of r)) in
    let five = section_strings r ++ headers in
    let four = symbol_strings r ++ five in
    let three = symbols ++ four in
    let two = rels ++ three in
    let one = filled ++ two in
    let all : Holds bytes 0 (head ++ one) = whole bytes in
    let head_size : length head ≡ 52 = length-words (header_row (file_header l)) in
    let from_filled : Holds bytes EHDR_SIZE one = behind_at bytes 0 EHDR_SIZE head one all (omega (arith, head_size)) in
    let from_rels : Holds bytes l.rels two = behind_at bytes EHDR_SIZE l.rels filled two from_filled (contents_end EHDR_SIZE r.sections) in
    let rels_size = length-all_rels r.sections in
    let from_symbols : Holds bytes l.symbols three = behind_at bytes l.rels l.symbols rels three from_rels (ap (λ n. l.rels + n) rels_size) in
    let symbols_size = length-symbols 1 r.symbols in
    let from_strings : Holds bytes l.strings four = behind_at bytes l.symbols l.strings symbols four from_symbols (ap (λ n. l.symbols + n) symbols_size) in
    let from_names : Holds bytes l.names five = behind_at bytes l.strings l.names (symbol_strings r) five from_strings refl in
    let from_headers : Holds bytes l.headers headers = behind_at bytes l.names l.headers (section_strings r) headers from_names refl in
    record {
      header = front bytes 0 head one all;
      filled = front bytes EHDR_SIZE filled two from_filled;
      rels = front bytes l.rels rels three from_rels;
      symbols = front bytes l.symbols symbols four from_symbols;
      strings = front bytes l.strings (symbol_strings r) five from_strings;
      names = front bytes l.names (section_strings r) headers from_names;
      headers = from_headers;
    }
