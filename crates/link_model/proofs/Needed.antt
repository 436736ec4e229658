-- What stands in the GOT for needs: each once, behind the header, and no two share a byte.
use Rattle.std.proofs.Common.{◌≡◌, ◌≢◌, ℕ, zero, suc, ◌+◌, ◌<◌, ◌≤◌, ◌⊎◌, inl, inr, Bool, true, cond, List, [], ◌∷◌, take, map, Option, Some, None, refl, ap, sym, ◌∙◌, arith, AllPairs}
use Rattle.std.specs.Prelude.{slice_get, option_map, Contains, count_by, Decides}
use Rattle.std.specs.List.{flat_map}
use Rattle.std.proofs.lemmas.Bool.{cases_lt}
use Rattle.std.proofs.lemmas.List.Sums.{sum_by-cons}
use Rattle.std.proofs.lemmas.Option.{slice_get-map}
use Rattle.std.proofs.lemmas.Slice.Eq.{bytes_eq-Decides}
use Rattle.fd_base.proofs.Members.{all_contained}
use Rattle.elf_model.specs.declared.constants.TheConstants.{GOT_HEADER_SIZE}
use Rattle.elf_model.specs.declared.relocatable.RelObject.{RelObject}
use Rattle.elf_model.specs.Sound.{RangesApart}
use Rattle.link_model.specs.declared.input.Mode.{Mode}
use Rattle.link_model.specs.declared.need.Need.{Need}
use Rattle.link_model.specs.declared.need.Need.TheVariants as need
use Rattle.link_model.specs.declared.need.UseKind.{UseKind}
use Rattle.link_model.specs.declared.need.UseKind.TheVariants.{Word, FuncWord, Descriptor, Slot}
use Rattle.link_model.specs.declared.target.Key.{Key}
use Rattle.link_model.specs.declared.target.Key.TheVariants.{Name, Own}
use Rattle.link_model.specs.GotLayout.{is_word, is_descriptor, is_slot, use_size, got_size, offset_behind}
use Rattle.link_model.specs.Inputs.{all_rels}
use Rattle.link_model.specs.Needs.{needs_of, all_needs, need_code, is_same_need, kind_of, place_in}
use Rattle.link_model.specs.Targets.{key_code, is_same_key}
use Rattle.link_model.specs.parts.Laws.{StandsInGot, NeedsLieApart, need_range}
use Rattle.link_model.proofs.Positions.{at_position, firsts_once}

-- ---- needs are told apart by their numbers

pub key_of : List ℕ → Option Key
key_of (zero ∷ k ∷ []) = Some (Name k)
key_of (suc zero ∷ i ∷ n ∷ []) = Some (Own i n)
key_of other = None

need_of : List ℕ → Option Need
need_of (zero ∷ key) = option_map need.Word (key_of key)
need_of (suc zero ∷ key) = option_map need.FuncWord (key_of key)
need_of (suc (suc zero) ∷ address ∷ []) = Some (need.Descriptor address)
need_of (suc (suc (suc zero)) ∷ key) = option_map need.NoFunction (key_of key)
need_of (suc (suc (suc (suc zero))) ∷ key) = option_map need.Slot (key_of key)
need_of other = None

pub key_back : (k : Key) → key_of (key_code k) ≡ Some k
unfolding key_of
key_back (Name k) = refl
key_back (Own i n) = refl

pub same_key : (a b : Key) → Decides (is_same_key a b) (a ≡ b)
same_key a b =
    let codes = bytes_eq-Decides (key_code a) (key_code b) in
    (λ is. let both : Some a ≡ Some b = sym (key_back a) ∙ ap key_of (codes.0 is) ∙ key_back b in cc, λ same. codes.1 (ap key_code same))

need_back : (n : Need) → need_of (need_code n) ≡ Some n
unfolding need_of key_of
need_back (need.Word (Name k)) = refl
need_back (need.Word (Own i n)) = refl
need_back (need.FuncWord (Name k)) = refl
need_back (need.FuncWord (Own i n)) = refl
need_back (need.Descriptor address) = refl
need_back (need.NoFunction (Name k)) = refl
need_back (need.NoFunction (Own i n)) = refl
need_back (need.Slot (Name k)) = refl
need_back (need.Slot (Own i n)) = refl

one_code : (a b : Need) → need_code a ≡ need_code b → a ≡ b
one_code a b same = let both : Some a ≡ Some b = sym (need_back a) ∙ ap need_of same ∙ need_back b in cc

pub same_need : (a b : Need) → Decides (is_same_need a b) (a ≡ b)
same_need a b =
    let codes = bytes_eq-Decides (need_code a) (need_code b) in
    (λ is. one_code a b (codes.0 is), λ same. codes.1 (ap need_code same))

pub needs_once : (mode : Mode) (inputs : List RelObject) → AllPairs (λ a b. a ≢ b) (all_needs mode inputs)
unfolding all_needs
needs_once mode inputs = firsts_once is_same_need same_need (flat_map (needs_of mode inputs) (all_rels inputs))

-- ---- the place of a need among all

pub at_place : (needs : List Need) (n : Need) → Contains needs n → slice_get needs (place_in needs n) ≡ Some n
at_place needs n there = at_position is_same_need same_need needs n there

-- ---- counts

abbrev bit : Bool → ℕ
bit b = cond b 1 0

count_cons : {X : Type 0} (p : X → Bool) (x : X) (xs : List X) → count_by p (x ∷ xs) ≡ bit (p x) + count_by p xs
count_cons p x xs = sum_by-cons (λ y. cond (p y) 1 0) x xs

-- what passes at a place isn't counted before it, and is counted behind it
counted : {X : Type 0} (p : X → Bool) (i j : ℕ) (xs : List X) (x : X) → slice_get xs i ≡ Some x → p x ≡ true → i < j → count_by p (take i xs) + 1 ≤ count_by p (take j xs)
counted p i zero xs x is passes lt = absurd (omega arith)
counted p i (suc j) [] x is passes lt = absurd cc
counted p zero (suc j) (y ∷ xs) x is passes lt =
    let same : y ≡ x = cc in
    let one : bit (p y) ≡ 1 = ap bit (ap p same ∙ passes) in
    omega (arith, count_cons p y (take j xs), one)
counted p (suc i) (suc j) (y ∷ xs) x is passes lt =
    let rest = counted p i j xs x is passes (omega arith) in
    omega (arith, count_cons p y (take i xs), count_cons p y (take j xs), rest)

counted_of_all : {X : Type 0} (p : X → Bool) (i : ℕ) (xs : List X) (x : X) → slice_get xs i ≡ Some x → p x ≡ true → count_by p (take i xs) + 1 ≤ count_by p xs
counted_of_all p i [] x is passes = absurd cc
counted_of_all p zero (y ∷ xs) x is passes =
    let same : y ≡ x = cc in
    let one : bit (p y) ≡ 1 = ap bit (ap p same ∙ passes) in
    omega (arith, count_cons p y xs, one)
counted_of_all p (suc i) (y ∷ xs) x is passes =
    let rest = counted_of_all p i xs x is passes in
    omega (arith, count_cons p y (take i xs), count_cons p y xs, rest)

-- ---- parts of the GOT

module _ (uses : List UseKind) where
  -- use i, of a kind, stands in its part
  pub record InPart (low high i : ℕ) (kind : UseKind) : Type 0 where
    pub from : low ≤ offset_behind uses i kind
    pub to : offset_behind uses i kind + use_size kind ≤ high

  pub in_part : (i : ℕ) (kind : UseKind) → slice_get uses i ≡ Some kind → InPart GOT_HEADER_SIZE (got_size uses) i kind
  in_part i Word is = let more = counted_of_all is_word i uses Word is refl in record { from = omega arith; to = omega (arith, more) }
  in_part i FuncWord is = let more = counted_of_all is_word i uses FuncWord is refl in record { from = omega arith; to = omega (arith, more) }
  in_part i Descriptor is = let more = counted_of_all is_descriptor i uses Descriptor is refl in record { from = omega arith; to = omega (arith, more) }
  in_part i Slot is = let more = counted_of_all is_slot i uses Slot is refl in record { from = omega arith; to = omega (arith, more) }

  abbrev Apart : ℕ → UseKind → ℕ → UseKind → Type 0
  Apart i a j b = (offset_behind uses i a + use_size a ≤ offset_behind uses j b) ⊎ (offset_behind uses j b + use_size b ≤ offset_behind uses i a)

  -- the first of two uses
  in_order : (i j : ℕ) (a b : UseKind) → slice_get uses i ≡ Some a → slice_get uses j ≡ Some b → i < j → Apart i a j b
  in_order i j Word Word p q lt = let more = counted is_word i j uses Word p refl lt in inl (omega (arith, more))
  in_order i j Word FuncWord p q lt = let more = counted is_word i j uses Word p refl lt in inl (omega (arith, more))
  in_order i j FuncWord Word p q lt = let more = counted is_word i j uses FuncWord p refl lt in inl (omega (arith, more))
  in_order i j FuncWord FuncWord p q lt = let more = counted is_word i j uses FuncWord p refl lt in inl (omega (arith, more))
  in_order i j Word Descriptor p q lt = let all = counted_of_all is_word i uses Word p refl in inl (omega (arith, all))
  in_order i j Word Slot p q lt = let all = counted_of_all is_word i uses Word p refl in inl (omega (arith, all))
  in_order i j FuncWord Descriptor p q lt = let all = counted_of_all is_word i uses FuncWord p refl in inl (omega (arith, all))
  in_order i j FuncWord Slot p q lt = let all = counted_of_all is_word i uses FuncWord p refl in inl (omega (arith, all))
  in_order i j Descriptor Word p q lt = let all = counted_of_all is_word j uses Word q refl in inr (omega (arith, all))
  in_order i j Descriptor FuncWord p q lt = let all = counted_of_all is_word j uses FuncWord q refl in inr (omega (arith, all))
  in_order i j Descriptor Descriptor p q lt = let more = counted is_descriptor i j uses Descriptor p refl lt in inl (omega (arith, more))
  in_order i j Descriptor Slot p q lt = let all = counted_of_all is_descriptor i uses Descriptor p refl in inl (omega (arith, all))
  in_order i j Slot Word p q lt = let all = counted_of_all is_word j uses Word q refl in inr (omega (arith, all))
  in_order i j Slot FuncWord p q lt = let all = counted_of_all is_word j uses FuncWord q refl in inr (omega (arith, all))
  in_order i j Slot Descriptor p q lt = let all = counted_of_all is_descriptor j uses Descriptor q refl in inr (omega (arith, all))
  in_order i j Slot Slot p q lt = let more = counted is_slot i j uses Slot p refl lt in inl (omega (arith, more))

  pub uses_apart : (i j : ℕ) (a b : UseKind) → slice_get uses i ≡ Some a → slice_get uses j ≡ Some b → i ≢ j → Apart i a j b
  uses_apart i j a b p q ne = elim (cases_lt i j) [
    | inl lt ↦ in_order i j a b p q lt
    | inr le ↦ elim (in_order j i b a q p (omega (arith, ne))) [ inl h ↦ inr h | inr h ↦ inl h ]
  ]

-- ---- needs

kind_at : (needs : List Need) (n : Need) → Contains needs n → slice_get (map kind_of needs) (place_in needs n) ≡ Some (kind_of n)
kind_at needs n there = slice_get-map kind_of needs (place_in needs n) ∙ ap (option_map kind_of) (at_place needs n there)

module _ (mode : Mode) (inputs : List RelObject) where
  abbrev needs : List Need
  needs = all_needs mode inputs

  pub stands : (n : Need) → Contains needs n → StandsInGot mode inputs n
  stands n there =
      let p = in_part (map kind_of needs) (place_in needs n) (kind_of n) (kind_at needs n there) in
      record { from = omega (arith, p.from); to = omega (arith, p.to) }

  pub needs_apart : (a b : Need) → Contains needs a → Contains needs b → a ≢ b → RangesApart (need_range mode inputs a) (need_range mode inputs b)
  needs_apart a b one two ne =
      elim (uses_apart (map kind_of needs) (place_in needs a) (place_in needs b) (kind_of a) (kind_of b) (kind_at needs a one) (kind_at needs b two) other) [
        | inl h ↦ inl (omega (arith, h))
        | inr h ↦ inr (omega (arith, h))
      ]
    where
      other : place_in needs a ≢ place_in needs b
      other same = let both : Some a ≡ Some b = sym (at_place needs a one) ∙ ap (slice_get needs) same ∙ at_place needs b two in ne cc

pub needs_lie_apart : NeedsLieApart
needs_lie_apart = record {
  once = needs_once;
  each = λ mode inputs. all_contained (StandsInGot mode inputs) (all_needs mode inputs) (stands mode inputs);
  apart = needs_apart;
}
