-- The constants that a data operation can hold: a byte rotated right by an even number of bits (Arm ARM,
-- DDI 0406C, A5.2.4).
use Rattle.std.specs.Prelude.{ℕ, ◌*◌, Bool, not, nat_lt}
use Rattle.std.specs.Int.{w32, rotate_left, rotate_right}
use Rattle.std.specs.List.{list_all, range_with_len}

unfoldable pub constant_of : ℕ → ℕ → ℕ
constant_of rot imm = rotate_right w32 imm (2 * rot)

-- a rotation gives a number where that is a byte when it is rotated back
unfoldable pub gives : ℕ → ℕ → Bool
gives n rot = nat_lt (rotate_left w32 n (2 * rot)) 256

-- no lower rotation gives the number
unfoldable pub is_lowest : ℕ → ℕ → Bool
is_lowest n rot = list_all (λ lower. not (gives n lower)) (range_with_len 0 rot)
