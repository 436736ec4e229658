-- Parts that are put one behind the other: what stands there, with what is left to put, is the whole.
use Rattle.std.proofs.Common.{◌≡◌, ℕ, zero, suc, ◌+◌, ◌≤◌, List, [], ◌∷◌, ◌++◌, length, map, drop, refl, sym, ap, ◌∙◌, arith, append_assoc, append-nil}
use Rattle.std.proofs.lemmas.List.{drop_all, map-append}
use Rattle.std.proofs.lemmas.Grind.{flat_map-append}
use Rattle.elf_model.specs.declared.relocatable.RelSection.{RelSection}
use Rattle.elf_model.specs.declared.table.SectionHeader.{SectionHeader}
use Rattle.elf_write.specs.Words.{table_bytes, section_row, zeros, step_of, aligned, offset_like}
use Rattle.elf_write.specs.RelFile.{end_of, end_of_all}

-- one part more
pub put_more : (now after piece rest whole all : List ℕ) → after ≡ now ++ piece → whole ≡ piece ++ rest → now ++ whole ≡ all → after ++ rest ≡ all
put_more now after piece rest whole all put is so_far =
    ap (λ bs. bs ++ rest) put ∙ append_assoc now piece rest ∙ ap (λ bs. now ++ bs) (sym is) ∙ so_far

-- nothing is left
pub put_all : (now rest all : List ℕ) → rest ≡ [] → now ++ rest ≡ all → now ≡ all
put_all now rest all none so_far = sym (append-nil now) ∙ sym (ap (λ bs. now ++ bs) none) ∙ so_far

-- what is made of the items that are left, where none is
pub none_left : {X : Type 0} (f : List X → List ℕ) (xs : List X) (i : ℕ) → length xs ≤ i → f [] ≡ [] → f (drop i xs) ≡ []
none_left f xs i end none = ap f (drop_all i xs end) ∙ none

pub zeros_more : (n : ℕ) → zeros n ++ 0 ∷ [] ≡ zeros (n + 1)
zeros_more n = let one : suc n ≡ n + 1 = omega arith in by_count n ∙ ap zeros one
  where
    by_count : (n : ℕ) → zeros n ++ 0 ∷ [] ≡ zeros (suc n)
    by_count zero = refl
    by_count (suc n) = ap (λ (bs : List ℕ). 0 ∷ bs) (by_count n)

-- two tables of section headers
pub headers_join : (xs ys : List SectionHeader) → table_bytes (map section_row (xs ++ ys)) ≡ table_bytes (map section_row xs) ++ table_bytes (map section_row ys)
headers_join xs ys = ap table_bytes (map-append section_row xs ys) ∙ flat_map-append _ (map section_row xs) (map section_row ys)

-- ---- sections end behind where they begin

pub offset_like_from : (place align at : ℕ) → at ≤ offset_like place align at
offset_like_from place align at = omega arith

pub aligned_from : (align at : ℕ) → at ≤ aligned align at
aligned_from align at = offset_like_from 0 (step_of align) at

end_grows : (at : ℕ) (s : RelSection) → at ≤ end_of at s
end_grows at s = let from = aligned_from s.align at in omega (arith, from)

pub ends_grow : (at : ℕ) (ss : List RelSection) → at ≤ end_of_all at ss
ends_grow at [] = omega arith
ends_grow at (s ∷ ss) =
    let here = end_grows at s in
    let rest = ends_grow (end_of at s) ss in
    omega (arith, here, rest)

-- the end of a section is within that of all
pub end_within : (at total : ℕ) (left rest : List RelSection) (s : RelSection) → left ≡ s ∷ rest → end_of_all at left ≡ total → end_of at s ≤ total
end_within at total left rest s more is =
    let whole = ap (end_of_all at) more in
    let behind = ends_grow (end_of at s) rest in
    omega (arith, is, whole, behind)
