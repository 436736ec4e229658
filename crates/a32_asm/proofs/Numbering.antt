-- Places with their numbers.
use Rattle.std.proofs.Common.{◌≡◌, ◌⊎◌, ℕ, ◌+◌, ◌<◌, ◌≤◌, Bool, true, false, cond, not, List, [], ◌∷◌, ◌++◌, length, get_or, set, take, drop, replicate, refl, sym, ap, subst, inl, inr, ◌∙◌, arith, append_assoc, append-nil, eq-eqb, ne_eqb, length-set, get_or-set_same, get_or-set_other}
use Rattle.std.specs.Prelude.{◌==◌, ◌&&◌, is_none, All, filter}
use Rattle.std.specs.List.{range_with_len, position_or_len, AllByRecursion}
use Rattle.std.proofs.lemmas.Bool.{cases_eq}
use Rattle.std.proofs.lemmas.List.{get_or-replicate, length-replicate, drop_more, drop_all}
use Rattle.std.proofs.lemmas.List.Elements.{filter_more, filter-append, All-append, All-filter, All-weaker, recursion_from_All}
use Rattle.fd_base.proofs.Lists.{range_more}
use Rattle.a32_asm.specs.Layout.{Layout}
use Rattle.a32_asm.specs.SecondPass.{Contents}
use Rattle.a32_asm.specs.Object.{facts_at, locals, others}
use Rattle.a32_asm.specs.parts.Made.{IsMade}
use Rattle.a32_asm.specs.parts.Numbered.{AreNamed, AreNumbers}
use Rattle.a32_asm.proofs.Lists.{range_below}
use Rattle.a32_asm.proofs.Writing.{below, labels_labelled, numbered, numbered_few}

-- ---- what passes a test, one behind the other

module _ (p : ℕ → Bool) (xs : List ℕ) (i x : ℕ) (old now : List ℕ) (l : i < length xs) (is : x ≡ get_or xs i 0) (so_far : now ≡ old ++ filter p (take i xs)) where
  pub passes_more : p x ≡ true → now ++ x ∷ [] ≡ old ++ filter p (take (i + 1) xs)
  passes_more passes =
      let here : p (get_or xs i 0) ≡ true = ap p (sym is) ∙ passes in
      ap (λ ys. ys ++ x ∷ []) so_far ∙ append_assoc old (filter p (take i xs)) (x ∷ []) ∙ ap (λ y. old ++ (filter p (take i xs) ++ y ∷ [])) is
      ∙ ap (λ ys. old ++ ys) (ap (λ b. filter p (take i xs) ++ cond b (get_or xs i 0 ∷ []) []) (sym here) ∙ sym (filter_more p xs i 0 l))

  pub fails_more : p x ≡ false → now ≡ old ++ filter p (take (i + 1) xs)
  fails_more fails =
      let here : p (get_or xs i 0) ≡ false = ap p (sym is) ∙ fails in
      so_far ∙ ap (λ ys. old ++ ys) (sym (append-nil (filter p (take i xs))) ∙ (ap (λ b. filter p (take i xs) ++ cond b (get_or xs i 0 ∷ []) []) (sym here) ∙ sym (filter_more p xs i 0 l)))

range_filter : (p : ℕ → Bool) (n : ℕ) → filter p (range_with_len 0 (n + 1)) ≡ filter p (range_with_len 0 n) ++ cond (p n) (n ∷ []) []
range_filter p n = ap (filter p) (range_more n) ∙ filter-append p (range_with_len 0 n) (n ∷ [])

module _ (p : ℕ → Bool) (n : ℕ) (old now : List ℕ) (so_far : now ≡ old ++ filter p (range_with_len 0 n)) where
  pub number_more : p n ≡ true → now ++ n ∷ [] ≡ old ++ filter p (range_with_len 0 (n + 1))
  number_more passes =
      ap (λ ys. ys ++ n ∷ []) so_far ∙ append_assoc old (filter p (range_with_len 0 n)) (n ∷ [])
      ∙ ap (λ ys. old ++ ys) (ap (λ b. filter p (range_with_len 0 n) ++ cond b (n ∷ []) []) (sym passes) ∙ sym (range_filter p n))

  pub no_number_more : p n ≡ false → now ≡ old ++ filter p (range_with_len 0 (n + 1))
  no_number_more fails =
      so_far ∙ ap (λ ys. old ++ ys) (sym (append-nil (filter p (range_with_len 0 n))) ∙ (ap (λ b. filter p (range_with_len 0 n) ++ cond b (n ∷ []) []) (sym fails) ∙ sym (range_filter p n)))

-- ---- numbers

pub numbers_start : (places : List ℕ) (count : ℕ) → AreNumbers (1 + length places) (drop (length places) places) (replicate count (length places + 1))
numbers_start places count k l =
    let short : k < count = (let len = length-replicate count (length places + 1) in omega arith) in
    let none = drop_all (length places) places (omega arith) in
    get_or-replicate count k (length places + 1) 0 short ∙ rw none (omega arith)

pub numbers_more : (places : List ℕ) (i : ℕ) (numbers : List ℕ) → i < length places → AreNumbers (1 + (i + 1)) (drop (i + 1) places) numbers
    → AreNumbers (1 + i) (drop i places) (set numbers (get_or places i 0) (i + 1))
numbers_more places i numbers l h k m =
    by_place (cases_eq place k) ∙ sym (ap (λ (ps : List ℕ). 1 + i + position_or_len (λ j. j == k) ps) (drop_more places i 0 l))
  where
    place : ℕ
    place = get_or places i 0

    behind : ℕ
    behind = position_or_len (λ j. j == k) (drop (i + 1) places)

    inside : k < length numbers
    inside = let len = length-set numbers place (i + 1) in omega arith

    first : place ≡ k → 1 + i ≡ 1 + i + cond (not (place == k)) (1 + behind) 0
    first e = rw (eq-eqb place k e) (omega arith)

    later : (place ≡ k → ⊥) → 1 + (i + 1) + behind ≡ 1 + i + cond (not (place == k)) (1 + behind) 0
    later ne = rw (ne_eqb place k ne) (omega arith)

    by_place : (place ≡ k) ⊎ (place ≡ k → ⊥) → get_or (set numbers place (i + 1)) k 0 ≡ 1 + i + cond (not (place == k)) (1 + behind) 0
    by_place (inl e) =
        let here : place < length numbers = subst (λ j. j < length numbers) (sym e) inside in
        let one : i + 1 ≡ 1 + i = omega arith in
        ap (λ j. get_or (set numbers place (i + 1)) j 0) (sym e) ∙ get_or-set_same numbers place (i + 1) 0 here ∙ one ∙ first e
    by_place (inr ne) = get_or-set_other numbers place k (i + 1) 0 (λ e. ne (sym e)) ∙ h k inside ∙ later ne

-- ---- the places of symbols

filter_same : (p q : ℕ → Bool) (xs : List ℕ) → AllByRecursion (λ x. p x ≡ q x) xs → filter p xs ≡ filter q xs
filter_same p q [] h = refl
filter_same p q (x ∷ xs) h = rw h.0 (ap (λ ys. cond (q x) (x ∷ ys) ys) (filter_same p q xs h.1))

abbrev pub marked_locals : Layout → List Bool → List ℕ
marked_locals all named = filter (λ k. is_none (facts_at all k).weak && get_or named k false) all.labels

pub locals_are : (all : Layout) (contents : Contents) (named : List Bool) → IsMade all → AreNamed all.known.names contents.rels named → marked_locals all named ≡ locals all contents
unfolding locals
locals_are all contents named m h =
    filter_same (λ k. is_none (facts_at all k).weak && get_or named k false) _ all.labels
    (recursion_from_All _ all.labels (λ i d l. let k = get_or all.labels i d in ap (λ b. is_none (facts_at all k).weak && b) (h k (below all m k (labels_labelled all m i d l)))))

pub labels_below : (all : Layout) → IsMade all → All (λ k. k < length all.known.names) all.labels
labels_below all m = λ i d l. below all m (get_or all.labels i d) (labels_labelled all m i d l)

pub places_below : (all : Layout) (p : ℕ → Bool) → All (λ k. k < length all.known.names) all.labels → All (λ k. k < length all.known.names) (filter p all.labels ++ others all)
unfolding others
places_below all p h =
    let n = length all.known.names in
    All-append (λ k. k < n) (filter p all.labels) (others all) (All-filter p (λ k. k < n) all.labels h)
    (All-filter _ (λ k. k < n) (range_with_len 0 n) (All-weaker (λ k. k < 0 + n) (λ k. k < n) (λ k l. omega arith) (range_with_len 0 n) (range_below 0 n)))

pub places_few : (all : Layout) (contents : Contents) (named : List Bool) → IsMade all → AreNamed all.known.names contents.rels named → length (marked_locals all named ++ others all) ≤ length all.known.names
unfolding numbered
places_few all contents named m h = rw (locals_are all contents named m h) (numbered_few all contents m)
