-- One more item is placed, or fails.
use Rattle.std.proofs.Common.{◌≡◌, ℕ, zero, suc, Option, Some, None, MatchOption, ◌+◌, ◌<◌, ◌≤◌, List, [], ◌∷◌, ◌++◌, length, get_or, drop, refl, sym, ap, ◌∙◌, subst, arith, add-one, append_assoc, drop-cons}
use Rattle.std.specs.List.{AllZip}
use Rattle.std.proofs.lemmas.List.{append-nil, drop_all}
use Rattle.placement.specs.declared.item.Held.{Held}
use Rattle.placement.specs.declared.item.Item.{Item}
use Rattle.placement.specs.Legal.{IsLegal, Chosen, HasNoRoom}
use Rattle.placement.specs.Placed.{Placed, FailsAt, range_at, LiesWithin}

-- the items from i on are item i and the items behind it
pub from_place : (items : List Item) (i : ℕ) (d : Item) → i < length items → drop i items ≡ get_or items i d ∷ drop (i + 1) items
from_place items i d lt = rw (add-one, drop-cons items i d) refl

pub placed_more : (low high : ℕ) (held : List Held) (items : List Item) (i at : ℕ) (d : Item) (rest : List ℕ)
    → i < length items → Chosen low high held (get_or items i d) at
    → Placed low high (held ++ range_at (get_or items i d) at ∷ []) (drop (i + 1) items) rest → Placed low high held (drop i items) (at ∷ rest)
placed_more low high held items i at d rest lt chosen placed =
    let P : List Item → Type 0 = λ xs. Placed low high held xs (at ∷ rest) in
    subst P (sym (from_place items i d lt)) (chosen, placed)

pub fails_more : (low high : ℕ) (held : List Held) (items : List Item) (i at n : ℕ) (d : Item)
    → i < length items → Chosen low high held (get_or items i d) at
    → FailsAt low high (held ++ range_at (get_or items i d) at ∷ []) (drop (i + 1) items) n → FailsAt low high held (drop i items) (suc n)
fails_more low high held items i at n d lt chosen fails =
    let P : List Item → Type 0 = λ xs. FailsAt low high held xs (suc n) in
    subst P (sym (from_place items i d lt)) (at, chosen, fails)

pub fails_here : (low high : ℕ) (held : List Held) (items : List Item) (i : ℕ) (d : Item)
    → i < length items → HasNoRoom low high held (get_or items i d) → FailsAt low high held (drop i items) zero
fails_here low high held items i d lt none =
    let P : List Item → Type 0 = λ xs. FailsAt low high held xs zero in
    subst P (sym (from_place items i d lt)) none

-- the step of the loop: what places or fails the rest behind item i does so from item i on
pub record Kept (low high : ℕ) (taken before : List Held) (items : List Item) (addrs : List ℕ) (i : ℕ) : Type 0 where
  pub placed : (rest : List ℕ) → Placed low high taken (drop i items) rest → Placed low high before items (addrs ++ rest)
  pub fails : (n : ℕ) → FailsAt low high taken (drop i items) n → FailsAt low high before items (i + n)

pub Kept-more : (low high : ℕ) (taken before : List Held) (items : List Item) (addrs : List ℕ) (i at : ℕ) (d : Item)
    → i < length items → Chosen low high taken (get_or items i d) at
    → Kept low high taken before items addrs i → Kept low high (taken ++ range_at (get_or items i d) at ∷ []) before items (addrs ++ at ∷ []) (i + 1)
Kept-more low high taken before items addrs i at d lt chosen kept = record {
  placed = λ rest h.
      let P : List ℕ → Type 0 = λ xs. Placed low high before items xs in
      subst P (sym (append_assoc addrs (at ∷ []) rest)) (kept.placed (at ∷ rest) (placed_more low high taken items i at d rest lt chosen h));
  fails = λ n h.
      let P : ℕ → Type 0 = λ k. FailsAt low high before items k in
      subst P (omega arith) (kept.fails (suc n) (fails_more low high taken items i at n d lt chosen h));
}

pub Kept-all : (low high : ℕ) (taken before : List Held) (items : List Item) (addrs : List ℕ) (i : ℕ)
    → length items ≤ i → Kept low high taken before items addrs i → Placed low high before items addrs
Kept-all low high taken before items addrs i le kept =
    let P : List ℕ → Type 0 = λ xs. Placed low high before items xs in
    let Q : List Item → Type 0 = λ xs. Placed low high taken xs [] in
    subst P (append-nil addrs) (kept.placed [] (subst Q (sym (drop_all i items le)) tt))

pub Kept-fails : (low high : ℕ) (taken before : List Held) (items : List Item) (addrs : List ℕ) (i : ℕ) (d : Item)
    → i < length items → HasNoRoom low high taken (get_or items i d)
    → Kept low high taken before items addrs i → FailsAt low high before items i
Kept-fails low high taken before items addrs i d lt none kept =
    let P : ℕ → Type 0 = λ k. FailsAt low high before items k in
    subst P (omega arith) (kept.fails zero (fails_here low high taken items i d lt none))

pub length_placed : (low high : ℕ) (held : List Held) (items : List Item) (addrs : List ℕ) → Placed low high held items addrs → length addrs ≡ length items
length_placed low high held [] [] p = refl
length_placed low high held [] (at ∷ addrs) p = absurd p
length_placed low high held (item ∷ items) [] p = absurd p
length_placed low high held (item ∷ items) (at ∷ addrs) p = omega (arith, length_placed low high _ items addrs p.1)

-- two choices for one item are one
chosen_once : (choice : Option ℕ) (L : ℕ → Type 0) (a b : ℕ) → L a → L b
    → MatchOption choice ((x : ℕ) → L x → a ≤ x) (λ listed. a ≡ listed) → MatchOption choice ((x : ℕ) → L x → b ≤ x) (λ listed. b ≡ listed) → a ≡ b
chosen_once None L a b la lb p q = omega (arith, p b lb, q a la)
chosen_once (Some listed) L a b la lb p q = p ∙ sym q

chosen_or_none : (choice : Option ℕ) (L : ℕ → Type 0) (a : ℕ) → L a
    → MatchOption choice ((x : ℕ) → L x → a ≤ x) (λ listed. a ≡ listed) → MatchOption choice ((x : ℕ) → ¬ L x) (λ listed. ¬ L listed) → ⊥
chosen_or_none None L a la p none = none a la
chosen_or_none (Some listed) L a la p none = none (subst L p la)

pub placed_once : (low high : ℕ) (held : List Held) (items : List Item) (xs ys : List ℕ) → Placed low high held items xs → Placed low high held items ys → xs ≡ ys
placed_once low high held [] [] [] p q = refl
placed_once low high held [] (x ∷ xs) ys p q = absurd p
placed_once low high held [] [] (y ∷ ys) p q = absurd q
placed_once low high held (item ∷ items) [] ys p q = absurd p
placed_once low high held (item ∷ items) (x ∷ xs) [] p q = absurd q
placed_once low high held (item ∷ items) (x ∷ xs) (y ∷ ys) p q =
    let e : x ≡ y = chosen_once item.at (IsLegal low high held item) x y p.0.legal q.0.legal p.0.choice q.0.choice in
    let P : ℕ → Type 0 = λ a. Placed low high (held ++ range_at item a ∷ []) items ys in
    let rest = placed_once low high _ items xs ys p.1 (subst P (sym e) q.1) in
    cc

pub placed_or_fails : (low high : ℕ) (held : List Held) (items : List Item) (xs : List ℕ) (n : ℕ) → Placed low high held items xs → FailsAt low high held items n → ⊥
placed_or_fails low high held [] xs n p f = f
placed_or_fails low high held (item ∷ items) [] n p f = p
placed_or_fails low high held (item ∷ items) (x ∷ xs) zero p f = chosen_or_none item.at (IsLegal low high held item) x p.0.legal p.0.choice f
placed_or_fails low high held (item ∷ items) (x ∷ xs) (suc n) p f =
    let e : f.0 ≡ x = chosen_once item.at (IsLegal low high held item) f.0 x f.1.legal p.0.legal f.1.choice p.0.choice in
    let P : ℕ → Type 0 = λ a. FailsAt low high (held ++ range_at item a ∷ []) items n in
    placed_or_fails low high _ items xs n p.1 (subst P e f.2)

pub placed_within : (low high : ℕ) (held : List Held) (items : List Item) (addrs : List ℕ) → Placed low high held items addrs → AllZip (LiesWithin low high) items addrs
placed_within low high held [] [] p = tt
placed_within low high held [] (at ∷ addrs) p = absurd p
placed_within low high held (item ∷ items) [] p = absurd p
placed_within low high held (item ∷ items) (at ∷ addrs) p = ((p.0.legal.above, p.0.legal.below), placed_within low high _ items addrs p.1)

-- two items that fail are one
pub fails_once : (low high : ℕ) (held : List Held) (items : List Item) (m n : ℕ) → FailsAt low high held items m → FailsAt low high held items n → m ≡ n
fails_once low high held [] m n f g = absurd f
fails_once low high held (item ∷ items) zero zero f g = refl
fails_once low high held (item ∷ items) zero (suc n) f g = absurd (chosen_or_none item.at (IsLegal low high held item) g.0 g.1.legal g.1.choice f)
fails_once low high held (item ∷ items) (suc m) zero f g = absurd (chosen_or_none item.at (IsLegal low high held item) f.0 f.1.legal f.1.choice g)
fails_once low high held (item ∷ items) (suc m) (suc n) f g =
    let e : g.0 ≡ f.0 = chosen_once item.at (IsLegal low high held item) g.0 f.0 g.1.legal f.1.legal g.1.choice f.1.choice in
    let P : ℕ → Type 0 = λ a. FailsAt low high (held ++ range_at item a ∷ []) items n in
    ap suc (fails_once low high _ items m n f.2 (subst P e g.2))
