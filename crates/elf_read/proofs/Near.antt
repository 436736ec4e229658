-- The texts of strings, found among the bytes that a name may have.
use Rattle.std.proofs.Common.{◌≡◌, ℕ, ◌+◌, ◌-◌, ◌<◌, ◌≤◌, Bool, true, false, cond, ltb, leb, List, [], length, get_or, take, drop, min, Option, Some, None, refl, sym, ◌∙◌, subst, inl, inr, arith}
use Rattle.std.specs.Prelude.{position, option_map, option_and_then, nat_eq, ◌==◌}
use Rattle.std.specs.Option.{option_map_or}
use Rattle.std.specs.List.{position_or_len}
use lib.Pointwise.{pointwise, pointwise_long}
use Rattle.std.proofs.lemmas.Bool.{lt-ltb, cases_lt, false_from_ne_true}
use Rattle.std.proofs.lemmas.Bool.Decides.{nat_tests}
use Rattle.std.proofs.lemmas.List.{length-take, length-take-le, get_or-take, take-take, take_all, drop_all, length-drop}
use Rattle.std.proofs.lemmas.List.Quantifiers.{position-Some}
use Rattle.std.proofs.lemmas.List.Sums.{position_or_len_is}
use Rattle.elf_model.specs.declared.table.SectionHeader.{SectionHeader}
use Rattle.elf_model.specs.Strings.{text_at, string_at}
use Rattle.elf_model.specs.Sections.{is_named}
use Rattle.elf_read.specs.parts.Strings.{IsString}
use Rattle.elf_model.proofs.Texts.{none_before}

position_is : (p : ℕ → Bool) (xs : List ℕ) (i : ℕ) → i < length xs → ((k : ℕ) → k < i → p (get_or xs k 0) ≡ false) → p (get_or xs i 0) ≡ true → position p xs ≡ Some i
position_is p xs i lt before here =
    let first : position_or_len p xs ≡ i = position_or_len_is p xs i 0 (omega arith) before (λ _. here) in
    let inside : ltb (position_or_len p xs) (length xs) ≡ true = lt-ltb _ _ (omega arith) in
    rw (inside, first) refl

-- what passes first among the first m is the first of all
found_near : (p : ℕ → Bool) (m : ℕ) (xs : List ℕ) (n : ℕ) → position p (take m xs) ≡ Some n → (n < m) × (n < length xs) × (position p xs ≡ Some n)
found_near p m xs n e =
    let s = position-Some p (take m xs) n 0 e in
    let len : length (take m xs) ≤ m = omega (arith, length-take m xs) in
    let len' : length (take m xs) ≤ length xs = omega (arith, length-take m xs) in
    let lt : n < m = omega (arith, s.0) in
    let inside : n < length xs = omega (arith, s.0) in (
      lt,
      inside,
      position_is p xs n inside
          (λ k h. subst (λ (b : ℕ). p b ≡ false) (get_or-take m xs k 0 (omega arith)) (s.2 k h))
          (subst (λ (b : ℕ). p b ≡ true) (get_or-take m xs n 0 lt) s.1),
    )

-- where none of the first m passes, the first that does lies behind them
none_near : (p : ℕ → Bool) (m : ℕ) (xs : List ℕ) (n : ℕ) → position p (take m xs) ≡ None → position p xs ≡ Some n → (m ≤ n) × (n < length xs)
none_near p m xs n none e =
    let s = position-Some p xs n 0 e in
    elim (cases_lt n m) [
      | inl lt ↦
          let there : position p (take m xs) ≡ Some n = position_is p (take m xs) n (omega (arith, length-take m xs, s.0))
          (λ k h. subst (λ (b : ℕ). p b ≡ false) (sym (get_or-take m xs k 0 (omega arith))) (s.2 k h))
          (subst (λ (b : ℕ). p b ≡ true) (sym (get_or-take m xs n 0 lt)) s.1) in
          let never : None ≡ Some n = sym none ∙ there in
          absurd cc
      | inr le ↦ (le, s.0)
    ]

abbrev pub is_zero : ℕ → Bool
is_zero b = b == 0

pub near_text : (strings : List ℕ) (k n : ℕ) → position is_zero (take 256 (drop k strings)) ≡ Some n → string_at strings k ≡ Some (take n (take 256 (drop k strings)))
unfolding string_at text_at
near_text strings k n e =
    let f = found_near is_zero 256 (drop k strings) n e in
    let len : length (take n (drop k strings)) ≡ n = length-take-le n (drop k strings) (omega (arith, f.1)) in
    let short : leb (length (take n (drop k strings))) 255 ≡ true = grind (arith, nat_tests, len, f.0) in
    rw (f.2, short, take-take n 256 (drop k strings) (omega (arith, f.0))) refl

too_long : (rest : List ℕ) (o : Option ℕ) → position is_zero rest ≡ o → position is_zero (take 256 rest) ≡ None
    → option_and_then (λ text. cond (leb (length text) 255) (Some text) None) (option_map (λ n. take n rest) o) ≡ None
too_long rest None e none = refl
too_long rest (Some n) e none =
    let f = none_near is_zero 256 rest n none e in
    let len : length (take n rest) ≡ n = length-take-le n rest (omega (arith, f.1)) in
    let long : leb (length (take n rest)) 255 ≡ false = grind (arith, nat_tests, len, f.0) in
    rw long refl

pub no_near_text : (strings : List ℕ) (k : ℕ) → position is_zero (take 256 (drop k strings)) ≡ None → string_at strings k ≡ None
unfolding string_at text_at
no_near_text strings k none = too_long (drop k strings) (position is_zero (drop k strings)) refl none

pub near_string : (xs : List ℕ) (n : ℕ) → position is_zero (take 256 xs) ≡ Some n → IsString (take n (take 256 xs))
near_string xs n e =
    let s = position-Some is_zero (take 256 xs) n 0 e in
    let len : length (take n (take 256 xs)) ≡ n = length-take-le n (take 256 xs) (omega (arith, s.0)) in
    record { short = omega (arith, len, s.0, length-take 256 xs); no_zero = none_before is_zero (take 256 xs) n e }

-- the bytes that a name may have
pub near_is : (xs : List ℕ) (k start end : ℕ) → start ≡ min k (length xs) → end ≡ min (start + 255 + 1) (length xs) → take (end - start) (drop start xs) ≡ take 256 (drop k xs)
near_is xs k start end e f =
    elim (cases_lt (length xs) k) [
      | inl lt ↦
          let none : drop k xs ≡ [] = drop_all k xs (omega arith) in
          let none' : drop start xs ≡ [] = drop_all start xs (omega (arith, e)) in
          rw (none, none') (take_all (end - start) [] (omega arith))
      | inr le ↦
          let same : start ≡ k = omega (arith, e) in
          elim (cases_lt (length xs) (k + 256)) [
            | inl lt ↦
                let len : length (drop k xs) ≡ length xs - k = length-drop k xs in
                let far : end - k ≡ length (drop k xs) = omega (arith, e, f, len) in
                rw (same, far, take_all 256 (drop k xs) (omega (arith, len))) (take_all (length (drop k xs)) (drop k xs) (omega arith))
            | inr le ↦
                let whole : end - k ≡ 256 = omega (arith, e, f) in
                rw (same, whole) refl
          ]
    ]

-- a longer text is another name
other_name : (wanted : List ℕ) (o : Option (List ℕ)) → length wanted ≤ 255
    → option_map_or (λ text. pointwise nat_eq text wanted) o false ≡ option_map_or (λ text. pointwise nat_eq text wanted) (option_and_then (λ text. cond (leb (length text) 255) (Some text) None) o) false
other_name wanted None short = refl
other_name wanted (Some text) short = by_length (leb (length text) 255) refl
  where
    by_length : (b : Bool) → leb (length text) 255 ≡ b → pointwise nat_eq text wanted ≡ option_map_or (λ t. pointwise nat_eq t wanted) (cond b (Some text) None) false
    by_length true h = refl
    by_length false h = false_from_ne_true (pointwise nat_eq text wanted) (λ e. absurd (grind (arith, nat_tests, pointwise_long nat_eq text wanted e, h, short)))

pub is_named_near : (names wanted : List ℕ) (h : SectionHeader) → length wanted ≤ 255 → is_named names wanted h ≡ option_map_or (λ text. pointwise nat_eq text wanted) (string_at names h.name) false
unfolding is_named string_at
is_named_near names wanted h short = other_name wanted (text_at names h.name) short
