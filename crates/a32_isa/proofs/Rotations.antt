-- A rotation to the left undoes one to the right, and the other way round.
use Rattle.std.proofs.Common.{◌≡◌, ℕ, zero, suc, ◌+◌, ◌-◌, ◌*◌, ◌/◌, ◌%◌, ◌^◌, ◌<◌, ap, sym, subst, ◌∙◌, arith}
use Rattle.std.specs.Int.{w32, rotate_left, rotate_right}
use Rattle.std.specs.Int.Bits.{bit_or, or_self, or_shifted_r}
use Rattle.std.proofs.lemmas.Nat.{or_shifted, shr_high, shr_split, mod-mul-add, shr_below, mod_below, mul-add-lt, pow-add, pow_pos}

parts : (u v : ℕ) → u + v ≡ 32 → 2 ^ v * 2 ^ u ≡ 2 ^ 32
parts u v e = sym (pow-add 2 v u) ∙ ap (λ k. 2 ^ k) (let turned : v + u ≡ 32 = omega arith in turned)

-- what is shifted out at the top is lost
low_shifted : (high low u v : ℕ) → low < 2 ^ v → u + v ≡ 32 → ((high * 2 ^ v + low) * 2 ^ u) % 2 ^ 32 ≡ low * 2 ^ u
low_shifted high low u v l e =
    let below : low * 2 ^ u + 0 < 2 ^ v * 2 ^ u = turned low (2 ^ u) 0 (2 ^ v) l (pow_pos u) in
    ap (λ n. n % 2 ^ 32) (regrouped high (2 ^ v) low (2 ^ u) ∙ ap (λ p. high * p + low * 2 ^ u) (parts u v e))
    ∙ mod-mul-add high (2 ^ 32) (low * 2 ^ u) (omega (arith, below, parts u v e))
  where
    turned : (a w b h : ℕ) → a < h → b < w → a * w + b < h * w
    turned a w b h p q = omega (arith, mul-add-lt a w b h p q)

    regrouped : (h t l w : ℕ) → (h * t + l) * w ≡ h * (t * w) + l * w
    regrouped h t l w = grind arith

rotated_left : (high low u v : ℕ) → u + v ≡ 32 → 0 < u → 0 < v → high < 2 ^ u → low < 2 ^ v → rotate_left w32 (high * 2 ^ v + low) u ≡ low * 2 ^ u + high
rotated_left high low u v e p q h l =
    let n : ℕ = high * 2 ^ v + low in
    let same : u % 32 ≡ u = omega arith in
    let rest : (32 - u % 32) % 32 ≡ v = omega arith in
    ap (λ k. bit_or ((n * 2 ^ k) % 2 ^ 32) (n / 2 ^ ((32 - u % 32) % 32))) same ∙ ap (λ k. bit_or ((n * 2 ^ u) % 2 ^ 32) (n / 2 ^ k)) rest
    ∙ ap (λ top. bit_or top (n / 2 ^ v)) (low_shifted high low u v l e) ∙ ap (bit_or (low * 2 ^ u)) (shr_high high v low l) ∙ or_shifted low u high h

rotated_right : (high low u v : ℕ) → u + v ≡ 32 → 0 < u → 0 < v → high < 2 ^ u → low < 2 ^ v → rotate_right w32 (low * 2 ^ u + high) u ≡ high * 2 ^ v + low
rotated_right high low u v e p q h l =
    let n : ℕ = low * 2 ^ u + high in
    let turned : v + u ≡ 32 = omega arith in
    let same : u % 32 ≡ u = omega arith in
    let rest : (32 - u % 32) % 32 ≡ v = omega arith in
    ap (λ k. bit_or (n / 2 ^ k) ((n * 2 ^ ((32 - u % 32) % 32)) % 2 ^ 32)) same ∙ ap (λ k. bit_or (n / 2 ^ u) ((n * 2 ^ k) % 2 ^ 32)) rest
    ∙ ap (λ top. bit_or (n / 2 ^ u) top) (low_shifted low high v u h turned) ∙ ap (λ bottom. bit_or bottom (high * 2 ^ v)) (shr_high low u high h)
    ∙ or_shifted_r high v low l

unrotated_left : (n : ℕ) → n < 2 ^ 32 → rotate_left w32 n 0 ≡ n
unrotated_left n l =
    let top : n * 1 % 2 ^ 32 ≡ n = omega arith in
    let bottom : n / 1 ≡ n = omega arith in
    ap (λ t. bit_or t (n / 1)) top ∙ ap (bit_or n) bottom ∙ or_self n

unrotated_right : (n : ℕ) → n < 2 ^ 32 → rotate_right w32 n 0 ≡ n
unrotated_right n l =
    let top : n * 1 % 2 ^ 32 ≡ n = omega arith in
    let bottom : n / 1 ≡ n = omega arith in
    ap (λ b. bit_or b (n * 1 % 2 ^ 32)) bottom ∙ ap (bit_or n) top ∙ or_self n

part_below : (n j k : ℕ) → j + k ≡ 32 → n < 2 ^ 32 → n / 2 ^ k < 2 ^ j
part_below n j k e l = shr_below n j k (subst (λ s. n < 2 ^ s) (sym e) l)

pub rotate_left-rotate_right : (n k : ℕ) → n < 2 ^ 32 → k < 32 → rotate_left w32 (rotate_right w32 n k) k ≡ n
rotate_left-rotate_right n zero l h = ap (λ m. rotate_left w32 m 0) (unrotated_right n l) ∙ unrotated_left n l
rotate_left-rotate_right n (suc k) l h =
    let u : ℕ = suc k in
    let v : ℕ = 32 - suc k in
    let e : suc k + (32 - suc k) ≡ 32 = omega arith in
    let positive : 0 < 32 - suc k = omega arith in
    let high : n % 2 ^ suc k < 2 ^ suc k = mod_below n (2 ^ suc k) (pow_pos (suc k)) in
    let low : n / 2 ^ suc k < 2 ^ (32 - suc k) = part_below n (32 - suc k) (suc k) (omega arith) l in
    ap (λ m. rotate_left w32 m u) (ap (λ m. rotate_right w32 m u) (sym (shr_split n u)) ∙ rotated_right (n % 2 ^ u) (n / 2 ^ u) u v e (omega arith) positive high low)
    ∙ rotated_left (n % 2 ^ u) (n / 2 ^ u) u v e (omega arith) positive high low ∙ shr_split n u

pub rotate_right-rotate_left : (n k : ℕ) → n < 2 ^ 32 → k < 32 → rotate_right w32 (rotate_left w32 n k) k ≡ n
rotate_right-rotate_left n zero l h = ap (λ m. rotate_right w32 m 0) (unrotated_left n l) ∙ unrotated_right n l
rotate_right-rotate_left n (suc k) l h =
    let u : ℕ = suc k in
    let v : ℕ = 32 - suc k in
    let e : suc k + (32 - suc k) ≡ 32 = omega arith in
    let positive : 0 < 32 - suc k = omega arith in
    let low : n % 2 ^ (32 - suc k) < 2 ^ (32 - suc k) = mod_below n (2 ^ (32 - suc k)) (pow_pos (32 - suc k)) in
    let high : n / 2 ^ (32 - suc k) < 2 ^ suc k = part_below n (suc k) (32 - suc k) e l in
    ap (λ m. rotate_right w32 m u) (ap (λ m. rotate_left w32 m u) (sym (shr_split n v)) ∙ rotated_left (n / 2 ^ v) (n % 2 ^ v) u v e (omega arith) positive high low)
    ∙ rotated_right (n / 2 ^ v) (n % 2 ^ v) u v e (omega arith) positive high low ∙ shr_split n v
