-- A place is in a range or outside it.
use Rattle.std.proofs.Common.{◌≡◌, ℕ, ◌+◌, ◌<◌, ◌≤◌, ◌⊎◌, inl, inr, true, false, arith}
use Rattle.std.specs.Prelude.{nat_le, nat_lt}
use Rattle.std.proofs.lemmas.Bool.{cases_lt, and_parts, and_from, and_left, and_right, le-leb, lt-leb, lt-ltb, le-ltb, leb-true, ltb-true}
use Rattle.fd_base.specs.Ranges.{is_in, spans}

pub in_or_out : (start len at : ℕ) → (((start ≤ at) × (at < start + len)) ⊎ ((at < start) ⊎ (start + len ≤ at)))
in_or_out start len at = elim (cases_lt at start) as (λ _. (((start ≤ at) × (at < start + len)) ⊎ ((at < start) ⊎ (start + len ≤ at)))) [
  | inl below ↦ inr (inl below)
  | inr from ↦ elim (cases_lt at (start + len)) as (λ _. (((start ≤ at) × (at < start + len)) ⊎ ((at < start) ⊎ (start + len ≤ at)))) [ inl within ↦ inl (from, within) | inr behind ↦ inr (inr behind) ]
]

pub is_inside : (start len at : ℕ) → start ≤ at → at < start + len → is_in start len at ≡ true
is_inside start len at from within = and_from (nat_le start at) (nat_lt at (start + len)) (le-leb start at from) (lt-ltb at (start + len) within)

pub is_outside : (start len at : ℕ) → (at < start) ⊎ (start + len ≤ at) → is_in start len at ≡ false
is_outside start len at (inl below) = and_left (nat_le start at) (nat_lt at (start + len)) (lt-leb start at below)
is_outside start len at (inr behind) = and_right (nat_le start at) (nat_lt at (start + len)) (le-ltb at (start + len) behind)

pub inside : (start len at : ℕ) → is_in start len at ≡ true → (start ≤ at) × (at < start + len)
inside start len at e =
    let parts = and_parts (nat_le start at) (nat_lt at (start + len)) e in
    (leb-true start at parts.0, ltb-true at (start + len) parts.1)

pub outside : (start len at : ℕ) → is_in start len at ≡ false → (at < start) ⊎ (start + len ≤ at)
outside start len at e = elim (in_or_out start len at) [
  | inl there ↦ let there' = is_inside start len at there.0 there.1 in absurd cc
  | inr out ↦ out
]

pub spanned : (start len at n : ℕ) → spans start len at n ≡ true → (start ≤ at) × (at + n ≤ start + len)
spanned start len at n e =
    let parts = and_parts (nat_le start at) (nat_le (at + n) (start + len)) e in
    (leb-true start at parts.0, leb-true (at + n) (start + len) parts.1)

pub is_spanned : (start len at n : ℕ) → start ≤ at → at + n ≤ start + len → spans start len at n ≡ true
is_spanned start len at n from within = and_from (nat_le start at) (nat_le (at + n) (start + len)) (le-leb start at from) (le-leb (at + n) (start + len) within)

-- what is outside a range is outside each part of it
pub outside_part : (start len from count at : ℕ) → start ≤ from → from + count ≤ start + len → is_in start len at ≡ false → is_in from count at ≡ false
outside_part start len from count at above below e = elim (outside start len at e) [
  | inl before ↦ is_outside from count at (inl (omega arith))
  | inr behind ↦ is_outside from count at (inr (omega arith))
]
