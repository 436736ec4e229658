-- What the immediates of data operations can hold.
use Rattle.std.proofs.Common.{◌≡◌, ℕ, ◌-◌, ◌*◌, ◌/◌, ◌%◌, ◌^◌, ◌<◌, ◌↔◌, IsTrue, ap, sym, ◌∙◌, arith}
use Rattle.std.specs.Int.{w32, rotate_left}
use Rattle.std.proofs.lemmas.Bool.{ltb-true, lt-ltb}
use Rattle.std.proofs.lemmas.Nat.{or_of_32, shr_le}
use Rattle.a32_isa.specs.Immediate.{constant_of, gives}
use Rattle.a32_isa.proofs.Rotations.{rotate_left-rotate_right, rotate_right-rotate_left}

-- the byte of a constant is found by rotating back
pub constant_of-back : (rot imm : ℕ) → rot < 16 → imm < 256 → rotate_left w32 (constant_of rot imm) (2 * rot) ≡ imm
unfolding constant_of
constant_of-back rot imm r b = rotate_left-rotate_right imm (2 * rot) (omega arith) (omega arith)

pub gives-exactly : (n rot : ℕ) → n < 2 ^ 32 → rot < 16 → IsTrue (gives n rot) ↔ ((imm : ℕ) × (imm < 256) × (constant_of rot imm ≡ n))
unfolding gives constant_of
gives-exactly n rot l r = (
  λ t. (rotate_left w32 n (2 * rot), ltb-true _ _ t, rotate_right-rotate_left n (2 * rot) l (omega arith)),
  λ given. let back : rotate_left w32 n (2 * rot) ≡ given.0 = ap (λ m. rotate_left w32 m (2 * rot)) (sym given.2) ∙ constant_of-back rot given.0 r given.1 in lt-ltb _ 256 (let below : rotate_left w32 n (2 * rot) < 256 = omega (arith, back, given.1) in below),
)

-- a byte rotated is a word
pub constant_fits : (rot imm : ℕ) → rot < 16 → imm < 256 → constant_of rot imm < 2 ^ 32
unfolding constant_of
constant_fits rot imm r b =
    let k : ℕ = 2 * rot in
    or_of_32 (imm / 2 ^ (k % 32)) ((imm * 2 ^ ((32 - k % 32) % 32)) % 2 ^ 32) (omega (arith, shr_le imm (k % 32))) (omega arith)
