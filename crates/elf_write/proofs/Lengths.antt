-- How many bytes the parts of a relocatable file have.
use Rattle.std.proofs.Common.{◌≡◌, ℕ, suc, ◌+◌, ◌-◌, ◌*◌, Bool, true, false, cond, List, [], ◌∷◌, ◌++◌, length, map, refl, ap, arith, length-append, mul-suc}
use Rattle.std.specs.Prelude.{filter}
use Rattle.std.proofs.lemmas.List.{length-replicate}
use Rattle.std.proofs.lemmas.List.Sums.{sum_by-append}
use Rattle.std.specs.List.{flat_map, sum_by}
use Rattle.fd_base.specs.Words.{word_bytes}
use Rattle.elf_model.specs.declared.object.Place.{Place}
use Rattle.elf_model.specs.declared.object.Rel.{Rel}
use Rattle.elf_model.specs.declared.object.Symbol.{Symbol}
use Rattle.elf_model.specs.declared.relocatable.RelObject.{RelObject}
use Rattle.elf_model.specs.declared.relocatable.RelSection.{RelSection}
use Rattle.elf_model.specs.declared.table.SectionHeader.{SectionHeader}
use Rattle.elf_write.specs.Words.{table_bytes, header_row, section_row, symbol_row, rel_row, zeros, aligned}
use Rattle.elf_write.specs.Strings as string
use Rattle.elf_write.specs.RelFile as spec
use Rattle.elf_write.specs.RelFile.{end_of, end_of_all, contents, rel_bytes, index_of, symbol_rows, has_rels, rel_header_if, rel_headers, kept_headers, headers_of, layout_of, size_of, symbol_strings, section_strings, rel_file}
use Rattle.elf_write.proofs.Putting.{aligned_from}

pub contents_length : (at : ℕ) (ss : List RelSection) → at + length (contents at ss) ≡ end_of_all at ss
contents_length at [] = omega arith
contents_length at (s ∷ ss) =
    let rest = contents_length (end_of at s) ss in
    let from = aligned_from s.align at in
    let a = length-append (zeros (aligned s.align at - at)) (s.filled ++ contents (end_of at s) ss) in
    let b = length-append s.filled (contents (end_of at s) ss) in
    let z : length (zeros (aligned s.align at - at)) ≡ aligned s.align at - at = length-replicate (aligned s.align at - at) 0 in
    omega (arith, rest, from, a, b, z)

-- a table whose rows have as many bytes each
pub rows_length : {X : Type 0} (row : X → List ℕ) (size : ℕ) → ((x : X) → length (word_bytes (row x)) ≡ size) → (xs : List X) → length (table_bytes (map row xs)) ≡ size * length xs
rows_length row size each [] = omega arith
rows_length row size each (x ∷ xs) =
    let a = length-append (word_bytes (row x)) (table_bytes (map row xs)) in
    let rest = rows_length row size each xs in
    let here = each x in
    let product = mul-suc size (length xs) in
    omega (arith, a, rest, here, product)

pub rel_rows_length : (rels : List Rel) → length (table_bytes (map rel_row rels)) ≡ 8 * length rels
rel_rows_length = rows_length rel_row 8 (λ r. refl)

pub tables_length : (ss : List RelSection) → length (flat_map rel_bytes ss) ≡ 8 * sum_by (λ s. length s.rels) ss
tables_length [] = refl
tables_length (s ∷ ss) =
    let rest = tables_length ss in
    let count : RelSection → ℕ = λ x. length x.rels in
    let one : sum_by count (s ∷ []) ≡ length s.rels = omega arith in
    let total : sum_by count (s ∷ ss) ≡ sum_by count (s ∷ []) + sum_by count ss = sum_by-append count (s ∷ []) ss in
    let here = rel_rows_length s.rels in
    let a = length-append (rel_bytes s) (flat_map rel_bytes ss) in
    omega (arith, rest, here, a, one, total)

-- rows of symbols by whatever gives the index of a symbol's section
module _ (index_of : Place → ℕ) (rows : ℕ → List Symbol → List (List ℕ)) (none : (at : ℕ) → rows at [] ≡ []) (first : (at : ℕ) (s : Symbol) (ss : List Symbol) → rows at (s ∷ ss) ≡ symbol_row (string.place_of at s.name) (index_of s.place) s ∷ rows (string.behind at s.name) ss) where
  pub symbols_length : (at : ℕ) (ss : List Symbol) → length (table_bytes (rows at ss)) ≡ 16 * length ss
  symbols_length at [] = ap (λ bs. length (table_bytes bs)) (none at)
  symbols_length at (s ∷ ss) =
      let row = ap (λ bs. length (table_bytes bs)) (first at s ss) in
      let rest = symbols_length (string.behind at s.name) ss in
      omega (arith, row, rest)

pub header_rows_length : (hs : List SectionHeader) → length (table_bytes (map section_row hs)) ≡ 40 * length hs
header_rows_length = rows_length section_row 40 (λ h. refl)

pub kept_count : (at name : ℕ) (ss : List RelSection) → length (kept_headers at name ss) ≡ length ss
kept_count at name [] = refl
kept_count at name (s ∷ ss) = ap suc (kept_count (end_of at s) (string.behind name s.name) ss)

pub tables_count : (symtab at i : ℕ) (ss : List RelSection) → length (rel_headers symtab at i ss) ≡ length (filter has_rels ss)
tables_count symtab at i [] = refl
tables_count symtab at i (s ∷ ss) = by_rels (has_rels s) (spec.rel_header symtab at i s) (rel_headers symtab (at + spec.rel_size s) (i + 1) ss) s (filter has_rels ss) (tables_count symtab (at + spec.rel_size s) (i + 1) ss)
  where
    by_rels : (b : Bool) (h : SectionHeader) (hs : List SectionHeader) (s : RelSection) (ss : List RelSection) → length hs ≡ length ss
        → length (cond b (h ∷ []) [] ++ hs) ≡ length (cond b (s ∷ ss) ss)
    by_rels true h hs s ss is = ap suc is
    by_rels false h hs s ss is = is

pub headers_count : (r : RelObject) → length (headers_of r) ≡ (layout_of r).symtab + 3
headers_count r =
    let l = layout_of r in
    let kept = kept_headers 52 1 r.sections in
    let rels = rel_headers l.symtab l.rels 1 r.sections in
    let tables = spec.table_headers l (spec.table_names_place r) (spec.local_count r.symbols) in
    let a = length-append kept (rels ++ tables) in
    let b = length-append rels tables in
    let k = kept_count 52 1 r.sections in
    let t = tables_count l.symtab l.rels 1 r.sections in
    omega (arith, a, b, k, t)

-- the whole
pub file_length : (r : RelObject) → length (rel_file r) ≡ size_of (layout_of r)
unfolding rel_file
file_length r =
    let l = layout_of r in
    let h = word_bytes (header_row (spec.file_header l)) in
    let c = contents 52 r.sections in
    let t = flat_map rel_bytes r.sections in
    let y = table_bytes (symbol_rows 1 r.symbols) in
    let s = symbol_strings r in
    let n = section_strings r in
    let x = table_bytes (map section_row (headers_of r)) in
    let a1 = length-append h (c ++ (t ++ (y ++ (s ++ (n ++ x))))) in
    let a2 = length-append c (t ++ (y ++ (s ++ (n ++ x)))) in
    let a3 = length-append t (y ++ (s ++ (n ++ x))) in
    let a4 = length-append y (s ++ (n ++ x)) in
    let a5 = length-append s (n ++ x) in
    let a6 = length-append n x in
    let lc = contents_length 52 r.sections in
    let lt = tables_length r.sections in
    let ly = symbols_length index_of symbol_rows (λ at. refl) (λ at s ss. refl) 1 r.symbols in
    let lx = header_rows_length (headers_of r) in
    let count = headers_count r in
    omega (arith, a1, a2, a3, a4, a5, a6, lc, lt, ly, lx, count)
