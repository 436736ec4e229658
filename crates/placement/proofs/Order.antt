-- Held ranges in another order, and ranges that meet nowhere.
use Rattle.std.proofs.Common.{◌≡◌, ℕ, zero, suc, Option, Some, None, MatchOption, ◌≤◌, inl, inr, true, false, cond, ltb, List, [], ◌∷◌, ◌++◌, All, Contains, drop, refl, sym, subst, arith}
use Rattle.std.proofs.lemmas.List.Elements.{All-nil, All-head, All-tail, All-weaker, All-contains, All-contains_itself, All-push, Contains-append_left, Contains-append_right, Contains-append_cases, Contains-push, Contains-push_cases}
use Rattle.std.proofs.lemmas.List.{append-nil, append_assoc}
use Rattle.fd_base.proofs.Members.{contains_first, contains_later, first_or_later}
use Rattle.placement.specs.declared.item.Held.{Held}
use Rattle.placement.specs.declared.item.Item.{Item}
use Rattle.placement.specs.Legal.{Apart, IsLegal, Chosen}
use Rattle.placement.specs.Placed.{Placed, FailsAt, range_at}
use Rattle.placement.specs.Space.{held_with, all_held, ranges_at, AreApart, SameRanges}
use Rattle.placement.proofs.Placing.{Kept}

-- what holds of all ranges holds of those that are among them
all_among : (P : Held → Type 0) (xs ys : List Held) → ((r : Held) → Contains ys r → Contains xs r) → All P xs → All P ys
all_among P xs ys among all = All-weaker (Contains ys) P (λ r here. All-contains P xs r all (among r here)) ys (All-contains_itself ys)

legal_among : (low high at : ℕ) (xs ys : List Held) (item : Item) → ((r : Held) → Contains ys r → Contains xs r) → IsLegal low high xs item at → IsLegal low high ys item at
legal_among low high at xs ys item among legal = record {
  above = legal.above;
  below = legal.below;
  congruent = legal.congruent;
  apart = all_among (Apart at item.memsz) xs ys among legal.apart;
}

-- a choice among legal addresses is one among others that are the same
choice_same : (choice : Option ℕ) (K L : ℕ → Type 0) (at : ℕ) → ((b : ℕ) → L b → K b)
    → MatchOption choice ((b : ℕ) → K b → at ≤ b) (λ listed. at ≡ listed) → MatchOption choice ((b : ℕ) → L b → at ≤ b) (λ listed. at ≡ listed)
choice_same None K L at back least = λ b legal. least b (back b legal)
choice_same (Some listed) K L at back is = is

none_same : (choice : Option ℕ) (K L : ℕ → Type 0) → ((b : ℕ) → L b → K b)
    → MatchOption choice ((b : ℕ) → ¬ K b) (λ listed. ¬ K listed) → MatchOption choice ((b : ℕ) → ¬ L b) (λ listed. ¬ L listed)
none_same None K L back none = λ b legal. none b (back b legal)
none_same (Some listed) K L back none = λ legal. none (back listed legal)

chosen_same : (low high at : ℕ) (xs ys : List Held) (item : Item) → SameRanges xs ys → Chosen low high xs item at → Chosen low high ys item at
chosen_same low high at xs ys item same chosen = record {
  legal = legal_among low high at xs ys item (λ r. (same r).1) chosen.legal;
  choice = choice_same item.at (IsLegal low high xs item) (IsLegal low high ys item) at (λ b. legal_among low high b ys xs item (λ r. (same r).0)) chosen.choice;
}

pushed_among : (xs ys : List Held) (new r : Held) → ((q : Held) → Contains xs q → Contains ys q) → Contains (xs ++ new ∷ []) r → Contains (ys ++ new ∷ []) r
pushed_among xs ys new r among here =
    elim (Contains-push_cases xs new r here) [
      | inl before ↦ Contains-append_left ys (new ∷ []) r (among r before)
      | inr is ↦ subst (Contains (ys ++ new ∷ [])) is (Contains-push ys new)
    ]

same_pushed : (xs ys : List Held) (new : Held) → SameRanges xs ys → SameRanges (xs ++ new ∷ []) (ys ++ new ∷ [])
same_pushed xs ys new same = λ r. (pushed_among xs ys new r (λ q. (same q).0), pushed_among ys xs new r (λ q. (same q).1))

pub placed_same : (low high : ℕ) (xs ys : List Held) (items : List Item) (addrs : List ℕ) → SameRanges xs ys → Placed low high xs items addrs → Placed low high ys items addrs
placed_same low high xs ys [] [] same p = p
placed_same low high xs ys [] (at ∷ addrs) same p = p
placed_same low high xs ys (item ∷ items) [] same p = p
placed_same low high xs ys (item ∷ items) (at ∷ addrs) same p =
    (chosen_same low high at xs ys item same p.0, placed_same low high _ _ items addrs (same_pushed xs ys (range_at item at) same) p.1)

pub fails_same : (low high : ℕ) (xs ys : List Held) (items : List Item) (n : ℕ) → SameRanges xs ys → FailsAt low high xs items n → FailsAt low high ys items n
fails_same low high xs ys [] n same f = f
fails_same low high xs ys (item ∷ items) zero same f =
    none_same item.at (IsLegal low high xs item) (IsLegal low high ys item) (λ b. legal_among low high b ys xs item (λ r. (same r).0)) f
fails_same low high xs ys (item ∷ items) (suc n) same f =
    (f.0, chosen_same low high f.0 xs ys item same f.1, fails_same low high _ _ items n (same_pushed xs ys (range_at item f.0) same) f.2)

-- a range is among those with a new one exactly where it was held or is the new one
held_or_new : (new r : Held) (held : List Held) → Contains (held_with new held) r → Contains (held ++ new ∷ []) r
held_or_new new r [] here = here
held_or_new new r (first ∷ held) here =
    elim (ltb first.start new.start) as (λ b. Contains (cond b (first ∷ held_with new held) (new ∷ first ∷ held)) r → Contains (first ∷ held ++ new ∷ []) r) [
      | true ↦ λ at. elim (first_or_later first r (held_with new held) at) [
        | inl is ↦ contains_first first r (held ++ new ∷ []) is
        | inr later ↦ contains_later first r (held ++ new ∷ []) (held_or_new new r held later)
      ]
      | false ↦ λ at. elim (first_or_later new r (first ∷ held) at) [
        | inl is ↦ subst (Contains (first ∷ held ++ new ∷ [])) is (Contains-push (first ∷ held) new)
        | inr later ↦ Contains-append_left (first ∷ held) (new ∷ []) r later
      ]
    ] here

still_held : (new r : Held) (held : List Held) → Contains held r → Contains (held_with new held) r
still_held new r [] here = absurd (omega (arith, here.1))
still_held new r (first ∷ held) here =
    elim (ltb first.start new.start) as (λ b. Contains (cond b (first ∷ held_with new held) (new ∷ first ∷ held)) r) [
      | true ↦ elim (first_or_later first r held here) [
        | inl is ↦ contains_first first r (held_with new held) is
        | inr later ↦ contains_later first r (held_with new held) (still_held new r held later)
      ]
      | false ↦ contains_later new r (first ∷ held) here
    ]

new_held : (new : Held) (held : List Held) → Contains (held_with new held) new
new_held new [] = contains_first new new [] refl
new_held new (first ∷ held) =
    elim (ltb first.start new.start) as (λ b. Contains (cond b (first ∷ held_with new held) (new ∷ first ∷ held)) new) [
      | true ↦ contains_later first new (held_with new held) (new_held new held)
      | false ↦ contains_first new new (first ∷ held) refl
    ]

pub same_with : (new : Held) (held : List Held) → SameRanges (held ++ new ∷ []) (held_with new held)
same_with new held = λ r. (back r, held_or_new new r held)
  where
    back : (r : Held) → Contains (held ++ new ∷ []) r → Contains (held_with new held) r
    back r here =
        elim (Contains-push_cases held new r here) [
          | inl before ↦ still_held new r held before
          | inr is ↦ subst (Contains (held_with new held)) is (new_held new held)
        ]

-- what holds of all ranges and of a new one holds of all then
pub all_with : (P : Held → Type 0) (new : Held) (held : List Held) → All P held → P new → All P (held_with new held)
all_with P new held all here = all_among P (held ++ new ∷ []) (held_with new held) (λ r. held_or_new new r held) (All-push P held new all here)

turned : (a b : Held) → Apart a.start a.len b → Apart b.start b.len a
turned a b apart = elim apart [ inl h ↦ inr h | inr h ↦ inl h ]

-- a new range that meets none of those that meet nowhere
apart_with : (new : Held) (held : List Held) → All (Apart new.start new.len) held → AreApart held → AreApart (held_with new held)
apart_with new [] away apart = (All-nil (Apart new.start new.len), tt)
apart_with new (first ∷ held) away apart =
    elim (ltb first.start new.start) as (λ b. AreApart (cond b (first ∷ held_with new held) (new ∷ first ∷ held))) [
      | true ↦ (
        all_with (Apart first.start first.len) new held apart.0 (turned new first (All-head (Apart new.start new.len) first held away)),
        apart_with new held (All-tail (Apart new.start new.len) first held away) apart.1,
      )
      | false ↦ (away, apart)
    ]

-- a new range is held in its place
pub Kept-with : (low high : ℕ) (taken before : List Held) (new : Held) (items : List Item) (addrs : List ℕ) (i : ℕ) → Kept low high (taken ++ new ∷ []) before items addrs i → Kept low high (held_with new taken) before items addrs i
Kept-with low high taken before new items addrs i kept =
    let same : SameRanges (held_with new taken) (taken ++ new ∷ []) = λ r. let there = same_with new taken r in (there.1, there.0) in
    record {
      placed = λ rest h. kept.placed rest (placed_same low high (held_with new taken) (taken ++ new ∷ []) (drop i items) rest same h);
      fails = λ n h. kept.fails n (fails_same low high (held_with new taken) (taken ++ new ∷ []) (drop i items) n same h);
    }

pub apart_all : (low high : ℕ) (held : List Held) (items : List Item) (addrs : List ℕ) → AreApart held → Placed low high held items addrs → AreApart (all_held items addrs held)
apart_all low high held [] addrs apart p = apart
apart_all low high held (item ∷ items) [] apart p = apart
apart_all low high held (item ∷ items) (at ∷ addrs) apart p =
    let new = range_at item at in
    apart_all low high (held_with new held) items addrs (apart_with new held p.0.legal.apart apart)
    (placed_same low high (held ++ new ∷ []) (held_with new held) items addrs (same_with new held) p.1)

-- more ranges behind the same ones are the same
same_in_front : (xs ys zs : List Held) → SameRanges xs ys → SameRanges (xs ++ zs) (ys ++ zs)
same_in_front xs ys zs same = λ r. (among xs ys r (λ q. (same q).0), among ys xs r (λ q. (same q).1))
  where
    among : (us vs : List Held) (r : Held) → ((q : Held) → Contains us q → Contains vs q) → Contains (us ++ zs) r → Contains (vs ++ zs) r
    among us vs r each here =
        elim (Contains-append_cases us zs r here) [
          | inl first ↦ Contains-append_left vs zs r (each r first)
          | inr later ↦ Contains-append_right vs zs r later
        ]

same_trans : (xs ys zs : List Held) → SameRanges xs ys → SameRanges ys zs → SameRanges xs zs
same_trans xs ys zs a b = λ r. ((λ h. (b r).0 ((a r).0 h)), (λ h. (a r).1 ((b r).1 h)))

same_turned : (xs ys : List Held) → SameRanges xs ys → SameRanges ys xs
same_turned xs ys same = λ r. ((same r).1, (same r).0)

-- what is held besides is the items' ranges
pub same_all : (items : List Item) (addrs : List ℕ) (held : List Held) → SameRanges (all_held items addrs held) (held ++ ranges_at items addrs)
same_all [] addrs held = subst (SameRanges held) (sym (append-nil held)) (λ r. ((λ h. h), (λ h. h)))
same_all (item ∷ items) [] held = subst (SameRanges held) (sym (append-nil held)) (λ r. ((λ h. h), (λ h. h)))
same_all (item ∷ items) (at ∷ addrs) held =
    let new = range_at item at in
    let rest = ranges_at items addrs in
    let more : SameRanges (held_with new held ++ rest) ((held ++ new ∷ []) ++ rest) =
    same_in_front (held_with new held) (held ++ new ∷ []) rest (same_turned (held ++ new ∷ []) (held_with new held) (same_with new held)) in
    let joined : SameRanges (held_with new held ++ rest) (held ++ new ∷ rest) = subst (SameRanges (held_with new held ++ rest)) (append_assoc held (new ∷ []) rest) more in
    same_trans (all_held items addrs (held_with new held)) (held_with new held ++ rest) (held ++ new ∷ rest) (same_all items addrs (held_with new held)) joined
