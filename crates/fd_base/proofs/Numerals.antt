-- The number that digits stand for, as it is read from the left.
use Rattle.std.proofs.Common.{◌≡◌, ◌≢◌, ℕ, ◌+◌, ◌*◌, ◌^◌, ◌<◌, ◌≤◌, zero, suc, Bool, true, false, List, [], ◌∷◌, length, refl, sym, ap, ◌∙◌, arith, Some, None, Result, Ok, Err, nat_lt, get_or, lit<, nat_le, ◌&&◌, inl, inr, add-zero, zero-add, zero-mul, mul-one}
use Rattle.std.proofs.Math.Nat.{pow-suc, pow-zero}
use Rattle.std.specs.Result.{result_ok}
use Rattle.std.proofs.lemmas.Bool.{and_parts, ltb-true, lt-ltb, le-ltb, le-leb, lt-leb, cases_lt, cond-false, and_left, and_right}
use Rattle.std.proofs.lemmas.Str.{IsUtf8-from_ascii}
use Rattle.std.specs.Str.{IsUtf8}
use Rattle.std.proofs.lemmas.Str.Parse.{without_leading_plus_none}
use Rattle.std.specs.Char.{digit_value, is_digit}
use Rattle.std.specs.List.{list_all}
use Rattle.std.specs.Str.{IsAscii}
use Rattle.std.specs.Str.Parse.{AllDigits, digits_value_after, digits_value, ParsesUnsigned}
use Rattle.fd_base.specs.Texts.{positional, numeral_of}

unshifted : (n base : ℕ) → n ≡ n * base ^ 0 + 0
unshifted n base = simp (pow-zero, mul-one, add-zero) refl

shifted : (n base digit place rest : ℕ) → (n * base + digit) * base ^ place + rest ≡ n * base ^ suc place + (digit * base ^ place + rest)
shifted n base digit place rest = let e = pow-suc base place in grind (arith, e)

-- digits behind a number that stands there already
pub digits_value_after_lem : (base n : ℕ) (digits : List ℕ) → digits_value_after base n digits ≡ n * base ^ length digits + positional base digits
digits_value_after_lem base n [] = unshifted n base
digits_value_after_lem base n (digit ∷ digits) =
    digits_value_after_lem base (n * base + digit_value digit) digits ∙ shifted n base (digit_value digit) (length digits) (positional base digits)

pub all_digits : (base : ℕ) (digits : List ℕ) → list_all (λ d. is_digit d base) digits ≡ true → AllDigits base digits
all_digits base [] e = tt
all_digits base (digit ∷ digits) e =
    let parts = and_parts (is_digit digit base) (list_all (λ d. is_digit d base) digits) e in
    (ltb-true _ _ parts.0, all_digits base digits parts.1)

digit_is_ascii : (digit base : ℕ) → base ≤ 36 → digit_value digit < base → digit < 128
digit_is_ascii digit base most lt = grind arith

pub digits_are_ascii : (base : ℕ) (digits : List ℕ) → base ≤ 36 → AllDigits base digits → IsAscii digits
digits_are_ascii base [] most all i = lit< tt
digits_are_ascii base (digit ∷ digits) most all zero = digit_is_ascii digit base most all.0
digits_are_ascii base (digit ∷ digits) most all (suc i) = digits_are_ascii base digits most all.1 i

-- a digit isn't a plus
pub no_plus : (base : ℕ) (digits : List ℕ) → base ≤ 36 → AllDigits base digits → get_or digits 0 0 ≢ 43
no_plus base [] most all e = cc
no_plus base (digit ∷ digits) most all e =
    let lt : digit_value 43 < base = rw e at all.0 in
    absurd (omega arith)

pub digits_value_lem : (base : ℕ) (digits : List ℕ) → digits_value base digits ≡ positional base digits
digits_value_lem base digits = digits_value_after_lem base 0 digits ∙ simp (zero-mul, zero-add) refl

-- the four tests of a number of digits
abbrev passes : ℕ → ℕ → List ℕ → Bool
passes base most digits = nat_le 1 (length digits) && (nat_le (length digits) most && (list_all (λ d. is_digit d base) digits && nat_lt (positional base digits) (2 ^ 32)))

refused : (base most : ℕ) (digits : List ℕ) → passes base most digits ≡ false → None ≡ numeral_of base most digits
unfolding numeral_of
refused base most digits e = sym (cond-false (passes base most digits) (Some (positional base digits)) None e)

taken : (base most : ℕ) (digits : List ℕ) → 0 < length digits → length digits ≤ most → list_all (λ d. is_digit d base) digits ≡ true → positional base digits < 2 ^ 32
    → Some (positional base digits) ≡ numeral_of base most digits
unfolding numeral_of
taken base most digits some short all fits =
    rw (le-leb 1 (length digits) some, le-leb (length digits) most short, all, lt-ltb (positional base digits) (2 ^ 32) fits) refl

pub too_long : (base most : ℕ) (digits : List ℕ) → most < length digits → None ≡ numeral_of base most digits
too_long base most digits long = refused base most digits (and_right (nat_le 1 (length digits)) _ (and_left (nat_le (length digits) most) _ (lt-leb (length digits) most long)))

pub not_digits : (base most : ℕ) (digits : List ℕ) → list_all (λ d. is_digit d base) digits ≡ false → None ≡ numeral_of base most digits
not_digits base most digits e =
    refused base most digits (and_right (nat_le 1 (length digits)) _ (and_right (nat_le (length digits) most) _ (and_left (list_all (λ d. is_digit d base) digits) _ e)))

too_great : (base most : ℕ) (digits : List ℕ) → 2 ^ 32 ≤ positional base digits → None ≡ numeral_of base most digits
too_great base most digits great =
    let e = le-ltb (positional base digits) (2 ^ 32) great in
    refused base most digits (and_right (nat_le 1 (length digits)) _ (and_right (nat_le (length digits) most) _ (and_right (list_all (λ d. is_digit d base) digits) _ e)))

no_digits : (base most : ℕ) (digits : List ℕ) → length digits ≤ 0 → None ≡ numeral_of base most digits
no_digits base most digits none = refused base most digits (and_left (nat_le 1 (length digits)) _ (lt-leb 1 (length digits) (omega arith)))

-- what is read of digits
pub parsed : {E : Type 0} (base most : ℕ) (digits : List ℕ) (r : Result ℕ E) → base ≤ 36 → length digits ≤ most → list_all (λ d. is_digit d base) digits ≡ true
    → ParsesUnsigned 32 base digits r → result_ok r ≡ numeral_of base most digits
parsed base most digits (Ok n) high short all p =
    let same = without_leading_plus_none digits (no_plus base digits high (all_digits base digits all)) in
    let read = rw (same, digits_value_lem) at p in
    ap Some read.1 ∙ taken base most digits read.0.0.0 short all read.0.1
parsed base most digits (Err e) high short all p =
    let same = without_leading_plus_none digits (no_plus base digits high (all_digits base digits all)) in
    let read = rw (same, digits_value_lem) at p in
    elim (cases_lt 0 (length digits)) [
      | inl some ↦ elim (cases_lt (positional base digits) (2 ^ 32)) [
        | inl fits ↦ absurd (read ((some, all_digits base digits all), fits))
        | inr great ↦ too_great base most digits great
      ]
      | inr none ↦ no_digits base most digits none
    ]

pub digits_utf8 : (base : ℕ) (digits : List ℕ) → base ≤ 36 → list_all (λ d. is_digit d base) digits ≡ true → IsUtf8 digits
digits_utf8 base digits high all = IsUtf8-from_ascii digits (digits_are_ascii base digits high (all_digits base digits all))

pub ruleset numerals = (parsed, digits_utf8, too_long, not_digits)
