-- Ranges by rising start, looked at from the first on.
use Rattle.std.proofs.Common.{◌≡◌, ℕ, ◌+◌, ◌%◌, ◌<◌, ◌≤◌, max, inl, inr, List, [], ◌∷◌, length, get_or, take, All, ap, arith}
use Rattle.std.proofs.lemmas.Bool.{cases_lt, lt-ltb, le-ltb}
use Rattle.std.proofs.lemmas.List.{get_or-take, get_or_default, length-take, length-take-le}
use Rattle.std.proofs.lemmas.List.Elements.{All-cons, All-more, All-weaker}
use Rattle.std.proofs.lemmas.List.Kept.{AllPairs-cons}
use Rattle.fd_base.proofs.Lists.{pairs_head, pairs_tail, pairs_of_none, pairs_of_one}
use Rattle.placement.specs.declared.item.Held.{Held}
use Rattle.placement.specs.declared.item.Item.{Item}
use Rattle.placement.specs.Legal.{Apart}
use Rattle.placement.specs.Placed.{range_at}
use Rattle.placement.specs.Space.{held_with, all_held}
use Rattle.placement.specs.parts.Rising.{AreRising}
use Rattle.placement.proofs.Order.{all_with}

abbrev Before : Held → Held → Type 0
Before earlier later = earlier.start ≤ later.start

pub rising_none : AreRising []
rising_none = pairs_of_none Before

pub rising_with : (new : Held) (held : List Held) → AreRising held → AreRising (held_with new held)
rising_with new [] rising = pairs_of_one Before new
rising_with new (first ∷ held) rising =
    let behind = pairs_head Before first held rising in
    let rest = pairs_tail Before first held rising in
    elim (cases_lt first.start new.start) [
      | inl below ↦ rw (lt-ltb first.start new.start below) (AllPairs-cons Before first (held_with new held) (all_with (Before first) new held behind (omega arith)) (rising_with new held rest))
      | inr above ↦ rw (le-ltb first.start new.start above) (AllPairs-cons Before new (first ∷ held) (All-cons (Before new) first held above (All-weaker (Before first) (Before new) (λ r le. omega arith) held behind)) rising)
    ]

pub rising_all : (items : List Item) (addrs : List ℕ) (held : List Held) → AreRising held → AreRising (all_held items addrs held)
rising_all [] addrs held rising = rising
rising_all (item ∷ items) [] held rising = rising
rising_all (item ∷ items) (at ∷ addrs) held rising = rising_all items addrs (held_with (range_at item at) held) (rising_with (range_at item at) held rising)

rising_from : (held : List Held) (i k : ℕ) (d : Held) → AreRising held → i ≤ k → k < length held → (get_or held i d).start ≤ (get_or held k d).start
rising_from held i k d rising le within = elim (cases_lt i k) [
  | inl behind ↦ rising i k d behind within
  | inr same ↦ let is : i ≡ k = omega arith in omega (arith, ap (λ j. (get_or held j d).start) is)
]

-- ---- the ranges so far end at or before an address

abbrev pub HavePassed : ℕ → List Held → Type 0
HavePassed at held = All (λ r. r.start + r.len ≤ at) held

pub passed_more : (at later : ℕ) (held : List Held) (i : ℕ) (d : Held) → i < length held → at ≤ later → (get_or held i d).start + (get_or held i d).len ≤ later
    → HavePassed at (take i held) → HavePassed later (take (i + 1) held)
passed_more at later held i d lt le end so_far =
    All-more (λ r. r.start + r.len ≤ later) held i d lt (All-weaker (λ r. r.start + r.len ≤ at) (λ r. r.start + r.len ≤ later) (λ r h. omega arith) (take i held) so_far) end

-- and the next one begins behind the bytes from there
pub apart_here : (at len : ℕ) (held : List Held) (i : ℕ) (d : Held) → AreRising held → i < length held → at + len ≤ (get_or held i d).start → HavePassed at (take i held) → All (Apart at len) held
apart_here at len held i d rising lt room so_far = λ k e within. elim (cases_lt k i) [
  | inl before ↦ inl (rw (get_or-take i held k e before) at (so_far k e (omega (arith, length-take-le i held (omega arith)))))
  | inr from ↦ inr (omega (arith, rising_from held i k e rising from within, ap (λ (r : Held). r.start) (get_or_default held i d e lt)))
]

pub apart_passed : (at len : ℕ) (held : List Held) (i : ℕ) → length held ≤ i → HavePassed at (take i held) → All (Apart at len) held
apart_passed at len held i all so_far = λ k d within. inl (rw (get_or-take i held k d (omega arith)) at (so_far k d (omega (arith, length-take i held))))

-- the next range ends at or before what meets no range, where bytes from a lower address meet it
pub passes_next : (at b len : ℕ) (held : List Held) (i : ℕ) (d : Held) → i < length held → (get_or held i d).start < at + len → at ≤ b → All (Apart b len) held → (get_or held i d).start + (get_or held i d).len ≤ b
passes_next at b len held i d lt meets le apart = elim (apart i d lt) [ inl behind ↦ behind | inr before ↦ absurd (omega arith) ]

pub max_congruent : (a b unit residue : ℕ) → a % unit ≡ residue → b % unit ≡ residue → max a b % unit ≡ residue
max_congruent a b unit residue p q = elim (cases_lt a b) [
  | inl lt ↦ let is : max a b ≡ b = omega arith in rw is q
  | inr le ↦ let is : max a b ≡ a = omega arith in rw is p
]
