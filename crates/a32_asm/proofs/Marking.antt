-- Flags by the places of names.
use Rattle.std.proofs.Common.{◌≡◌, ◌⊎◌, ℕ, ◌+◌, ◌<◌, Bool, true, false, ◌||◌, List, [], ◌∷◌, length, get_or, set, take, map, replicate, sym, ap, subst, inl, inr, ◌∙◌, arith, get_or-set_same, get_or-set_other}
use Rattle.std.specs.Prelude.{bytes_eq}
use Rattle.std.specs.List.{list_any, IsDistinct}
use Rattle.std.proofs.lemmas.Bool.{cases_Bool, cases_eq, cases_order, or_right, false≢true}
use Rattle.std.proofs.Math.Bool.{or-false, or_assoc}
use Rattle.std.proofs.lemmas.List.{get_or-replicate, get_or-map, get_or_read, length-map, map_more}
use Rattle.std.proofs.lemmas.List.Sums.{passes_at_first}
use Rattle.std.proofs.lemmas.List.Folds.{list_any-append, list_any_at, list_any_more}
use Rattle.std.proofs.lemmas.Map.Keys.{apart_from_distinct}
use Rattle.a32_asm.specs.declared.contents.RelTo.{RelTo as RelRead}
use Rattle.a32_asm.specs.Known.{place_of}
use Rattle.a32_asm.specs.SecondPass.{RelTo}
use Rattle.a32_asm.specs.Object.{names_it}
use Rattle.a32_asm.specs.Shown.{shown_rel}
use Rattle.a32_asm.specs.parts.Numbered.{AreMarked, AreNamed}
use Rattle.a32_asm.proofs.Lists.{found_at, found_so}
use Rattle.a32_asm.proofs.Growing.{same_bytes, bytes_same}

-- names at different places differ
apart : (names : List (List ℕ)) (i j : ℕ) → IsDistinct bytes_eq names → i < length names → j < length names → get_or names i [] ≡ get_or names j [] → (i ≡ j → ⊥) → ⊥
apart names i j different l m e ne = elim (cases_order i j) [
  | inl is ↦ ne is
  | inr (inl less) ↦ false≢true (sym (apart_from_distinct bytes_eq names i j [] different less m) ∙ subst (λ name. bytes_eq (get_or names i []) name ≡ true) e (same_bytes (get_or names i [])))
  | inr (inr more) ↦ false≢true (sym (apart_from_distinct bytes_eq names j i [] different more l) ∙ subst (λ name. bytes_eq name (get_or names i []) ≡ true) e (same_bytes (get_or names i [])))
]

-- the flag of a name is set
flag_set : (names : List (List ℕ)) (flags : List Bool) (name : List ℕ) (k : ℕ) → IsDistinct bytes_eq names → length flags ≡ length names → k < length names
    → get_or (set flags (place_of name names) true) k false ≡ (get_or flags k false || bytes_eq (get_or names k []) name)
flag_set names flags name k different len l = elim (cases_Bool (bytes_eq (get_or names k []) name)) [
  | inl is ↦ (let same = bytes_same (get_or names k []) name is in
      let there = list_any_at (bytes_eq name) names k [] l (subst (λ n. bytes_eq n (get_or names k []) ≡ true) same (same_bytes (get_or names k []))) in
      let found = found_at (bytes_eq name) names there in
      let named = bytes_same name (get_or names (place_of name names) []) (found_so (bytes_eq name) names [] there) in
      let here : k ≡ place_of name names = at_place (cases_eq k (place_of name names)) found (same ∙ named) in
      let inside : place_of name names < length flags = omega arith in
      ap (λ j. get_or (set flags (place_of name names) true) j false) here ∙ get_or-set_same flags (place_of name names) true false inside ∙ sym (or_right (get_or flags k false) (bytes_eq (get_or names k []) name) is))
  | inr other ↦ (let ne : k ≡ place_of name names → ⊥ = λ e. elsewhere e other in
      get_or-set_other flags (place_of name names) k true false ne ∙ (sym (or-false (get_or flags k false)) ∙ ap (λ b. get_or flags k false || b) (sym other)))
]
  where
    at_place : (k ≡ place_of name names) ⊎ (k ≡ place_of name names → ⊥) → place_of name names < length names → get_or names k [] ≡ get_or names (place_of name names) [] → k ≡ place_of name names
    at_place (inl e) found same = e
    at_place (inr ne) found same = absurd (apart names k (place_of name names) different l found same ne)

    elsewhere : k ≡ place_of name names → bytes_eq (get_or names k []) name ≡ false → ⊥
    elsewhere e other =
        let found : place_of name names < length names = subst (λ j. j < length names) e l in
        let passes = passes_at_first (bytes_eq name) names [] found in
        let same : get_or names k [] ≡ name = ap (λ j. get_or names j []) e ∙ sym (bytes_same name (get_or names (place_of name names) []) passes) in
        false≢true (sym other ∙ subst (λ n. bytes_eq (get_or names k []) n ≡ true) same (same_bytes (get_or names k [])))

pub marked_none : (names : List (List ℕ)) (flags : List Bool) → AreMarked names [] flags flags
marked_none names flags k l = sym (or-false (get_or flags k false))

pub marked_more : (names : List (List ℕ)) (rels : List RelRead) (i : ℕ) (d : RelRead) (place : ℕ) (old now : List Bool) → place ≡ place_of (get_or rels i d).name.now names
    → IsDistinct bytes_eq names → i < length rels → length now ≡ length names
    → AreMarked names (map shown_rel (take i rels)) old now → AreMarked names (map shown_rel (take (i + 1) rels)) old (set now place true)
marked_more names rels i d place old now is different l len h k m =
    let name = (get_or rels i d).name.now in
    let here = get_or names k [] in
    let before = map shown_rel (take i rels) in
    ap (λ p. get_or (set now p true) k false) is ∙ flag_set names now name k different len m ∙ ap (λ b. b || bytes_eq here name) (h k m)
    ∙ or_assoc (get_or old k false) (names_it here before) (bytes_eq here name)
    ∙ ap (λ b. get_or old k false || b)
    (ap (λ b. names_it here before || b) (sym (or-false (bytes_eq here name)))
    ∙ sym (list_any-append (λ (rel : RelTo). bytes_eq here rel.name) before (shown_rel (get_or rels i d) ∷ []))
    ∙ ap (names_it here) (sym (map_more shown_rel rels i d l)))

-- the relocations of a section, as they are shown
pub section_at : (inside : List (List RelRead)) (sections : List (List RelTo)) (now : List (List RelRead)) (i : ℕ) (item slice : List RelRead) → map (map shown_rel) inside ≡ sections → now ≡ inside
    → i < length now → item ≡ get_or now i item → slice ≡ item → get_or sections i [] ≡ map shown_rel slice
section_at inside sections now i item slice view is l read same =
    let within : i < length inside = subst (λ (xs : List (List RelRead)). i < length xs) is l in
    let here : item ≡ get_or inside i item = read ∙ ap (λ (xs : List (List RelRead)). get_or xs i item) is in
    ap (λ (rs : List (List RelTo)). get_or rs i []) (sym view) ∙ get_or-map (map shown_rel) inside i [] [] within ∙ ap (map shown_rel) (sym (get_or_read inside i item within here []) ∙ sym same)

pub sections_within : (inside : List (List RelRead)) (sections : List (List RelTo)) (now : List (List RelRead)) (i : ℕ) → map (map shown_rel) inside ≡ sections → now ≡ inside → i < length now → i < length sections
sections_within inside sections now i view is l =
    let long = ap (λ (rs : List (List RelTo)). length rs) (sym view) ∙ length-map inside (map shown_rel) in
    let same = ap (λ (xs : List (List RelRead)). length xs) is in omega arith

pub named_none : (names : List (List ℕ)) (n : ℕ) → n ≡ length names → AreNamed names [] (replicate n false)
named_none names n len k l = get_or-replicate n k false false (omega arith)

pub named_more : (names : List (List ℕ)) (sections : List (List RelTo)) (rels : List RelTo) (i : ℕ) (old new : List Bool) → i < length sections → get_or sections i [] ≡ rels
    → AreNamed names (take i sections) old → AreMarked names rels old new → AreNamed names (take (i + 1) sections) new
named_more names sections rels i old new l is h m k short =
    let here = get_or names k [] in
    m k short ∙ ap (λ b. b || names_it here rels) (h k short) ∙ ap (λ (rs : List RelTo). list_any (names_it here) (take i sections) || names_it here rs) (sym is)
    ∙ sym (list_any_more (names_it here) sections i [] l)
