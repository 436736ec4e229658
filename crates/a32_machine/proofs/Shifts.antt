-- Shifts by powers of two, and by more than a word has bits.
use Rattle.std.proofs.Common.{◌≡◌, ℕ, ◌+◌, ◌-◌, ◌*◌, ◌/◌, ◌%◌, ◌^◌, ◌<◌, ◌≤◌, Bool, true, false, refl, sym, ap, ◌∙◌, arith}
use Rattle.std.specs.Prelude.{if◌then◌else◌}
use Rattle.std.proofs.Math.Nat.{pow-le-pow_right, div-eq_of_lt, mul_assoc}
use Rattle.std.proofs.lemmas.Bool.{eqb-true}
use Rattle.std.proofs.lemmas.Nat.{pow-add, pow_below, pow_pos, div-mul-add, shl_whole, shr_le}
use Rattle.a32_machine.specs.Bits.{bit_of}
use Rattle.a32_machine.specs.Shifter.{shifted_left, shifted_right, sign_shifted_right}

-- ---- to the left

-- within 64 bits nothing is lost
pub left_near : (x by : ℕ) → x < 2 ^ 32 → by ≤ 32 → (x * 2 ^ by) % 2 ^ 64 ≡ x * 2 ^ by
left_near x by l h = shl_whole x 32 by 64 l (omega arith)

pub left_far : (x by : ℕ) → 32 < by → shifted_left x by ≡ record { value = 0; carry = false }
left_far x by h =
    let more : by ≡ (by - 33) + 33 = omega arith in
    let power : 2 ^ by ≡ 2 ^ (by - 33) * 2 ^ 33 = ap (λ k. 2 ^ k) more ∙ pow-add 2 (by - 33) 33 in
    let whole : x * 2 ^ by ≡ x * 2 ^ (by - 33) * 2 ^ 33 = ap (λ p. x * p) power ∙ sym (mul_assoc x (2 ^ (by - 33)) (2 ^ 33)) in
    let value : (x * 2 ^ by) % 2 ^ 32 ≡ 0 = omega (arith, whole) in
    let carry : (x * 2 ^ by) / 2 ^ 32 % 2 ≡ 0 = omega (arith, whole) in
    rw (value, carry) refl

pub ruleset lefts = (left_near, left_far)

-- ---- to the right

gone : (x by : ℕ) → x < 2 ^ 32 → 32 ≤ by → x / 2 ^ by ≡ 0
gone x by l h =
    let power : 2 ^ 32 ≤ 2 ^ by = pow-le-pow_right (omega arith) {i = 32} {j = by} h in
    div-eq_of_lt (omega arith)

pub right_far : (x by : ℕ) → x < 2 ^ 32 → 32 < by → shifted_right x by ≡ record { value = 0; carry = false }
right_far x by l h =
    let value : x / 2 ^ by ≡ 0 = gone x by l (omega arith) in
    let carry : x / 2 ^ (by - 1) ≡ 0 = gone x (by - 1) l (omega arith) in
    rw (value, carry) refl

pub ruleset rights = (right_far, shr_le)

-- ---- with the sign

-- the copies of the sign above a word, as one number
pub sign_above : (by : ℕ) → by ≤ 32 → 2 ^ (32 + by) - 2 ^ 32 ≡ (2 ^ by - 1) * 2 ^ 32
sign_above by h =
    let power : 2 ^ (32 + by) ≡ 2 ^ 32 * 2 ^ by = pow-add 2 32 by in
    omega (arith, power, pow_pos by)

sign_far_by : (x by : ℕ) (sign : Bool) → bit_of x 31 ≡ sign → x < 2 ^ 32 → 32 < by
    → sign_shifted_right x by ≡ record { value = if sign then 2 ^ 32 - 1 else 0; carry = sign }
sign_far_by x by true e l h =
    let high : x / 2 ^ 31 % 2 ≡ 1 = eqb-true (x / 2 ^ 31 % 2) 1 e in
    let whole : 2 ^ (32 + by) ≡ 2 ^ 32 * 2 ^ by = pow-add 2 32 by in
    let power : 2 ^ 32 < 2 ^ by = pow_below 32 by h in
    let half : 2 ^ 32 ≤ 2 ^ (by - 1) = pow-le-pow_right (omega arith) {i = 32} {j = by - 1} (omega arith) in
    let up : 2 ^ by ≡ 2 * 2 ^ (by - 1) = ap (λ k. 2 ^ k) (omega arith) ∙ pow-add 2 1 (by - 1) in
    let wide : x + (2 ^ (32 + by) - 2 ^ 32) ≡ 4294967295 * 2 ^ by + (x + 2 ^ by - 2 ^ 32) = omega (arith, whole, power) in
    let wide_half : x + (2 ^ (32 + by) - 2 ^ 32) ≡ 8589934591 * 2 ^ (by - 1) + (x + 2 ^ (by - 1) - 2 ^ 32) = omega (arith, whole, half, up) in
    let value : (x + (2 ^ (32 + by) - 2 ^ 32)) / 2 ^ by ≡ 4294967295 = ap (λ n. n / 2 ^ by) wide ∙ div-mul-add 4294967295 (2 ^ by) (x + 2 ^ by - 2 ^ 32) (omega arith) in
    let carry : (x + (2 ^ (32 + by) - 2 ^ 32)) / 2 ^ (by - 1) ≡ 8589934591 = ap (λ n. n / 2 ^ (by - 1)) wide_half ∙ div-mul-add 8589934591 (2 ^ (by - 1)) (x + 2 ^ (by - 1) - 2 ^ 32) (omega arith) in
    rw (e, value, carry) refl
sign_far_by x by false e l h =
    let value : x / 2 ^ by ≡ 0 = gone x by l (omega arith) in
    let carry : x / 2 ^ (by - 1) ≡ 0 = gone x (by - 1) l (omega arith) in
    rw (e, value, carry) refl

pub sign_far : (x by : ℕ) → x < 2 ^ 32 → 32 < by → sign_shifted_right x by ≡ record { value = if bit_of x 31 then 2 ^ 32 - 1 else 0; carry = bit_of x 31 }
sign_far x by l h = sign_far_by x by (bit_of x 31) refl l h

pub ruleset signs = (sign_above, sign_far)
