-- The slots among needs.
use Rattle.std.proofs.Common.{◌≡◌, ℕ, suc, ◌+◌, Bool, true, false, cond, not, List, [], ◌∷◌, length, take, Option, Some, None, refl, ap, sym, ◌∙◌, arith}
use Rattle.std.specs.Prelude.{count_by, nat_lt, position, unwrap_or, option_map}
use Rattle.std.specs.List.{filter_map, prefix_len}
use Rattle.std.proofs.lemmas.Bool.Decides.{nat_tests}
use Rattle.std.proofs.lemmas.List.Sums.{sum_by-cons}
use Rattle.link_model.specs.declared.need.Need.{Need}
use Rattle.link_model.specs.declared.need.Need.TheVariants.{Word, FuncWord, Descriptor, NoFunction, Slot}
use Rattle.link_model.specs.declared.need.UseKind.{UseKind}
use Rattle.link_model.specs.declared.target.Key.{Key}
use Rattle.link_model.specs.GotLayout.{is_slot}
use Rattle.link_model.specs.Needs.{kind_of, slot_key, is_same_need, place_in}
use Rattle.link_model.specs.Targets.{is_same_key}
use Rattle.link_places.specs.parts.Got.{kinds_of}

count-cons : (kind : UseKind) (uses : List UseKind) → count_by is_slot (kind ∷ uses) ≡ cond (is_slot kind) 1 0 + count_by is_slot uses
count-cons kind uses = sum_by-cons (λ y. cond (is_slot y) 1 0) kind uses

pub slots-counted : (needs : List Need) → count_by is_slot (kinds_of needs) ≡ length (filter_map slot_key needs)
slots-counted [] = refl
slots-counted (Word key ∷ needs) = let rest = slots-counted needs in omega (arith, count-cons (kind_of (Word key)) (kinds_of needs), rest)
slots-counted (FuncWord key ∷ needs) = let rest = slots-counted needs in omega (arith, count-cons (kind_of (FuncWord key)) (kinds_of needs), rest)
slots-counted (Descriptor a ∷ needs) = let rest = slots-counted needs in omega (arith, count-cons (kind_of (Descriptor a)) (kinds_of needs), rest)
slots-counted (NoFunction key ∷ needs) = let rest = slots-counted needs in omega (arith, count-cons (kind_of (NoFunction key)) (kinds_of needs), rest)
slots-counted (Slot key ∷ needs) = let rest = slots-counted needs in omega (arith, count-cons (kind_of (Slot key)) (kinds_of needs), rest)

-- ---- the number of a slot

position-cons : {X : Type 0} (p : X → Bool) (x : X) (xs : List X) → position p (x ∷ xs) ≡ cond (p x) (Some 0) (option_map suc (position p xs))
position-cons p x xs = by (p x)
  where
    n : ℕ
    n = prefix_len (λ y. not (p y)) xs

    next : 1 + n ≡ suc n
    next = omega arith

    later : (b : Bool) → nat_lt n (length xs) ≡ b → cond (nat_lt (1 + n) (suc (length xs))) (Some (1 + n)) None ≡ option_map suc (cond b (Some n) None)
    later true is = let up : nat_lt (1 + n) (suc (length xs)) ≡ true = grind (arith, nat_tests) in ap (λ b. cond b (Some (1 + n)) None) up ∙ ap Some next
    later false is = let up : nat_lt (1 + n) (suc (length xs)) ≡ false = grind (arith, nat_tests) in ap (λ b. cond b (Some (1 + n)) None) up

    by : (b : Bool) → cond (nat_lt (cond (not b) (1 + n) 0) (suc (length xs))) (Some (cond (not b) (1 + n) 0)) None
        ≡ cond b (Some 0) (option_map suc (cond (nat_lt n (length xs)) (Some n) None))
    by true = let first : nat_lt 0 (suc (length xs)) ≡ true = grind (arith, nat_tests) in ap (λ b. cond b (Some 0) None) first
    by false = later (nat_lt n (length xs)) refl

-- how many slots stand before place k
abbrev slots_before : List Need → ℕ → ℕ
slots_before needs k = count_by is_slot (take k (kinds_of needs))

-- one need more in front: no slot, or one
other-front : (n : Need) (needs : List Need) → is_slot (kind_of n) ≡ false → (o : Option ℕ)
    → option_map (slots_before needs) o ≡ option_map (slots_before (n ∷ needs)) (option_map suc o)
other-front n needs none None = refl
other-front n needs none (Some k) =
    ap Some (sym (count-cons (kind_of n) (take k (kinds_of needs)) ∙ ap (λ b. cond b 1 0 + slots_before needs k) none ∙ same))
  where
    same : 0 + slots_before needs k ≡ slots_before needs k
    same = omega arith

slot-front : (k : Key) (needs : List Need) (o : Option ℕ)
    → option_map suc (option_map (slots_before needs) o) ≡ option_map (slots_before (Slot k ∷ needs)) (option_map suc o)
slot-front k needs None = refl
slot-front k needs (Some j) = ap Some (sym (count-cons (kind_of (Slot k)) (take j (kinds_of needs)) ∙ next))
  where
    next : 1 + slots_before needs j ≡ suc (slots_before needs j)
    next = omega arith

module _ (key : Key) where
  abbrev place_of : List Need → Option ℕ
  place_of needs = position (is_same_need (Slot key)) needs

  abbrev number_of : List Need → Option ℕ
  number_of needs = position (is_same_key key) (filter_map slot_key needs)

  passed-over : (n : Need) (needs : List Need) → is_slot (kind_of n) ≡ false → is_same_need (Slot key) n ≡ false → number_of needs ≡ option_map (slots_before needs) (place_of needs)
      → number_of needs ≡ option_map (slots_before (n ∷ needs)) (place_of (n ∷ needs))
  passed-over n needs none other rest =
      rest ∙ other-front n needs none (place_of needs)
      ∙ ap (option_map (slots_before (n ∷ needs))) (sym (position-cons (is_same_need (Slot key)) n needs ∙ ap (λ b. cond b (Some 0) (option_map suc (place_of needs))) other))

  met : (k : Key) (needs : List Need) (b : Bool) → number_of needs ≡ option_map (slots_before needs) (place_of needs)
      → cond b (Some 0) (option_map suc (number_of needs)) ≡ option_map (slots_before (Slot k ∷ needs)) (cond b (Some 0) (option_map suc (place_of needs)))
  met k needs true rest = refl
  met k needs false rest = ap (option_map suc) rest ∙ slot-front k needs (place_of needs)

  numbers : (needs : List Need) → number_of needs ≡ option_map (slots_before needs) (place_of needs)
  numbers [] = refl
  numbers (Word k ∷ needs) = passed-over (Word k) needs refl refl (numbers needs)
  numbers (FuncWord k ∷ needs) = passed-over (FuncWord k) needs refl refl (numbers needs)
  numbers (Descriptor a ∷ needs) = passed-over (Descriptor a) needs refl refl (numbers needs)
  numbers (NoFunction k ∷ needs) = passed-over (NoFunction k) needs refl refl (numbers needs)
  numbers (Slot k ∷ needs) =
      position-cons (is_same_key key) k (filter_map slot_key needs) ∙ met k needs (is_same_key key k) (numbers needs)
      ∙ ap (option_map (slots_before (Slot k ∷ needs))) (sym (position-cons (is_same_need (Slot key)) (Slot k) needs))

  unwrapped : (needs : List Need) (o : Option ℕ) → unwrap_or (option_map (slots_before needs) o) 0 ≡ slots_before needs (unwrap_or o 0)
  unwrapped needs None = refl
  unwrapped needs (Some k) = refl

  pub slot-number : (needs : List Need) → unwrap_or (position (is_same_key key) (filter_map slot_key needs)) 0 ≡ count_by is_slot (take (place_in needs (Slot key)) (kinds_of needs))
  slot-number needs = ap (λ o. unwrap_or o 0) (numbers needs) ∙ unwrapped needs (place_of needs)
