-- Words of 32 bits as numbers. Sections are those of the Arm ARM (Armv7-A and Armv7-R, DDI 0406C).
use Rattle.std.specs.Prelude.{ℕ, ◌+◌, ◌-◌, ◌/◌, ◌%◌, ◌^◌, Bool, ◌==◌, if◌then◌else◌}

-- one bit of a number
abbrev pub bit_of : ℕ → ℕ → Bool
bit_of x place = x / 2 ^ place % 2 == 1

-- a number of some bits with copies of its highest bit above, as far as it becomes a number of `to` bits (SignExtend)
abbrev pub sign_extended : ℕ → ℕ → ℕ → ℕ
sign_extended from to x = if bit_of x (from - 1) then x + (2 ^ to - 2 ^ from) else x
