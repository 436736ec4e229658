-- Things that lie one behind the other, and are found by a test.
use Rattle.std.proofs.Common.{◌≡◌, ℕ, zero, suc, ◌+◌, ◌%◌, ◌<◌, ◌≤◌, ◌⊎◌, inl, inr, Bool, true, false, cond, List, [], ◌∷◌, ◌++◌, map, Some, refl, ap, sym, subst, ◌∙◌, arith}
use Rattle.std.specs.Prelude.{Contains, max, slice_get}
use Rattle.std.proofs.lemmas.Bool.{false≢true}
use Rattle.fd_base.proofs.Members.{contains_first, contains_later, first_or_later, nothing_in}
use Rattle.link_layout.specs.declared.layout.Piece.{Piece}
use Rattle.link_layout.specs.Layout.{aligned, places, end_of, place_of}
use Rattle.link_layout.proofs.Lying.{from_aligned, aligned_multiple, end_from}

-- a test finds this thing and no other
pub record Finds {X : Type 0} (test : X → Bool) (xs : List X) (x : X) : Type 0 where
  pub member : Contains xs x
  pub passes : test x ≡ true
  pub only : (z : X) → Contains xs z → test z ≡ true → z ≡ x

-- a piece lies at a place, from another on, and ends before a third
pub record LiesAt (at place end : ℕ) (p : Piece) : Type 0 where
  pub from : at ≤ place
  pub to : place + p.size ≤ end
  pub multiple : place % max p.align 1 ≡ 0

module _ {X : Type 0} (piece : X → Piece) where
  -- ---- one thing

  finds_later : (test : X → Bool) (y : X) (xs : List X) (x : X) → test y ≡ false → Finds test (y ∷ xs) x → Finds test xs x
  finds_later test y xs x is finds = record {
    member = elim (first_or_later y x xs finds.member) [ inl same ↦ absurd (false≢true (sym is ∙ ap test same ∙ finds.passes)) | inr later ↦ later ];
    passes = finds.passes;
    only = λ z there passes. finds.only z (contains_later y z xs there) passes;
  }

  place_here : (test : X → Bool) (at : ℕ) (y : X) (xs : List X) → test y ≡ true → place_of piece test at (y ∷ xs) ≡ aligned (piece y).align at
  place_here test at y xs is = ap (λ b. cond b (aligned (piece y).align at) (place_of piece test (aligned (piece y).align at + (piece y).size) xs)) is

  place_later : (test : X → Bool) (at : ℕ) (y : X) (xs : List X) → test y ≡ false → place_of piece test at (y ∷ xs) ≡ place_of piece test (aligned (piece y).align at + (piece y).size) xs
  place_later test at y xs is = ap (λ b. cond b (aligned (piece y).align at) (place_of piece test (aligned (piece y).align at + (piece y).size) xs)) is

  pub lies : (test : X → Bool) (at : ℕ) (xs : List X) (x : X) → Finds test xs x → LiesAt at (place_of piece test at xs) (end_of at (map piece xs)) (piece x)
  lies test at [] x finds = absurd (nothing_in x finds.member)
  lies test at (y ∷ xs) x finds = by (λ is. lies test (aligned (piece y).align at + (piece y).size) xs x (finds_later test y xs x is finds)) (test y) refl
    where
      behind : ℕ
      behind = aligned (piece y).align at + (piece y).size

      from : at ≤ aligned (piece y).align at
      from = from_aligned (piece y).align at

      by : (test y ≡ false → LiesAt behind (place_of piece test behind xs) (end_of behind (map piece xs)) (piece x))
          → (b : Bool) → test y ≡ b → LiesAt at (place_of piece test at (y ∷ xs)) (end_of behind (map piece xs)) (piece x)
      by later true is =
          let same : y ≡ x = finds.only y (contains_first y y xs refl) is in
          let place = place_here test at y xs is in
          let end = end_from behind (map piece xs) in
          subst (λ z. LiesAt at (place_of piece test at (y ∷ xs)) (end_of behind (map piece xs)) (piece z)) same (record {
            from = omega (arith, place, from);
            to = omega (arith, place, end);
            multiple = ap (λ n. n % max (piece y).align 1) place ∙ aligned_multiple (piece y).align at;
          })
      by later false is =
          let place = place_later test at y xs is in
          let rest = later is in
          record {
            from = omega (arith, place, rest.from, from);
            to = omega (arith, place, rest.to);
            multiple = ap (λ n. n % max (piece x).align 1) place ∙ rest.multiple;
          }

  -- ---- two things

  pub apart : (p q : X → Bool) (at : ℕ) (xs : List X) (x y : X) → Finds p xs x → Finds q xs y → ((z : X) → p z ≡ true → q z ≡ false)
      → (place_of piece p at xs + (piece x).size ≤ place_of piece q at xs) ⊎ (place_of piece q at xs + (piece y).size ≤ place_of piece p at xs)
  apart p q at [] x y one two other = absurd (nothing_in x one.member)
  apart p q at (w ∷ xs) x y one two other =
      by (λ e f. apart p q (aligned (piece w).align at + (piece w).size) xs x y (finds_later p w xs x e one) (finds_later q w xs y f two) other) (p w) (q w) refl refl
    where
      behind : ℕ
      behind = aligned (piece w).align at + (piece w).size

      by : (p w ≡ false → q w ≡ false → (place_of piece p behind xs + (piece x).size ≤ place_of piece q behind xs) ⊎ (place_of piece q behind xs + (piece y).size ≤ place_of piece p behind xs))
          → (a b : Bool) → p w ≡ a → q w ≡ b
          → (place_of piece p at (w ∷ xs) + (piece x).size ≤ place_of piece q at (w ∷ xs)) ⊎ (place_of piece q at (w ∷ xs) + (piece y).size ≤ place_of piece p at (w ∷ xs))
      by later true true e f = absurd (false≢true (sym (other w e) ∙ f))
      by later true false e f =
          let size : (piece w).size ≡ (piece x).size = ap (λ z. (piece z).size) (one.only w (contains_first w w xs refl) e) in
          let here = place_here p at w xs e in
          let there = place_later q at w xs f in
          let rest = lies q behind xs y (finds_later q w xs y f two) in
          inl (omega (arith, size, here, there, rest.from))
      by later false true e f =
          let size : (piece w).size ≡ (piece y).size = ap (λ z. (piece z).size) (two.only w (contains_first w w xs refl) f) in
          let here = place_here q at w xs f in
          let there = place_later p at w xs e in
          let rest = lies p behind xs x (finds_later p w xs x e one) in
          inr (omega (arith, size, here, there, rest.from))
      by later false false e f =
          let here = place_later p at w xs e in
          let there = place_later q at w xs f in
          elim (later e f) [
            | inl h ↦ inl (omega (arith, here, there, h))
            | inr h ↦ inr (omega (arith, here, there, h))
          ]

  -- ---- by its number in the list

  -- the place of thing k is place k of the pieces
  pub place_at : (test : X → Bool) (at k : ℕ) (xs : List X) (x : X) → slice_get xs k ≡ Some x → test x ≡ true → ((j : ℕ) (z : X) → j < k → slice_get xs j ≡ Some z → test z ≡ false)
      → slice_get (places at (map piece xs)) k ≡ Some (place_of piece test at xs)
  place_at test at k [] x is passes first = absurd cc
  place_at test at zero (y ∷ xs) x is passes first =
      let same : y ≡ x = cc in
      ap Some (sym (place_here test at y xs (ap test same ∙ passes)))
  place_at test at (suc k) (y ∷ xs) x is passes first =
      place_at test (aligned (piece y).align at + (piece y).size) k xs x is passes (λ j z lt there. first (suc j) z (omega arith) there)
      ∙ ap Some (sym (place_later test at y xs (first zero y (omega arith) refl)))

  -- what is found among the first of two parts
  pub place_in_front : (test : X → Bool) (at : ℕ) (xs ys : List X) (x : X) → Contains xs x → test x ≡ true → place_of piece test at (xs ++ ys) ≡ place_of piece test at xs
  place_in_front test at [] ys x there passes = absurd (nothing_in x there)
  place_in_front test at (w ∷ xs) ys x there passes =
      by (λ later. place_in_front test (aligned (piece w).align at + (piece w).size) xs ys x later passes) (test w) refl
    where
      by : (Contains xs x → place_of piece test (aligned (piece w).align at + (piece w).size) (xs ++ ys) ≡ place_of piece test (aligned (piece w).align at + (piece w).size) xs)
          → (b : Bool) → test w ≡ b → place_of piece test at (w ∷ xs ++ ys) ≡ place_of piece test at (w ∷ xs)
      by later true is = place_here test at w (xs ++ ys) is ∙ sym (place_here test at w xs is)
      by later false is = elim (first_or_later w x xs there) [
        | inl same ↦ absurd (false≢true (sym is ∙ ap test same ∙ passes))
        | inr behind ↦ place_later test at w (xs ++ ys) is ∙ later behind ∙ sym (place_later test at w xs is)
      ]
