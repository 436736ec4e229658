-- The distance of a branch (Arm Architecture Reference Manual, "B, BL": imm24 counts words and is signed; ELF for the
-- Arm Architecture, "Addends": it is the addend of R_ARM_PC24, R_ARM_CALL, R_ARM_JUMP24 and R_ARM_PLT32).
use Rattle.std.specs.Prelude.{◌≡◌, ℕ, ℤ, pos, negsuc, ◌+◌, ◌-◌, ◌*◌, ◌/◌, ◌%◌, ◌^◌, ◌<◌, ◌*ℤ◌, ◌-ℤ◌, ◌≤ℤ◌, Bool, ◌==◌, ◌&&◌, nat_lt, Option, Some, None, if◌then◌else◌, unsigned_abs, int_le}
use Rattle.std.specs.Int.{w32, cast_unsigned}

-- the signed number that bits stand for
abbrev pub signed_number : ℕ → ℕ → ℤ
signed_number bits n = if nat_lt n (2 ^ (bits - 1)) then pos n else pos n -ℤ pos (2 ^ bits)

-- the low 24 bits
abbrev pub imm24 : ℕ → ℕ
imm24 word = word % 2 ^ 24

-- the distance in bytes that a word holds
abbrev pub branch_addend : ℕ → ℤ
branch_addend word = pos 4 *ℤ signed_number 24 (imm24 word)

-- the distances that 24 bits can hold: whole words, from -2^25 bytes up to 2^25 - 4
pub record IsDistance (d : ℤ) : Type 0 where
  pub whole : unsigned_abs d % 4 ≡ 0
  pub least : negsuc 33554431 ≤ℤ d
  pub most : d ≤ℤ pos 33554428

abbrev pub is_distance : ℤ → Bool
is_distance d = unsigned_abs d % 4 == 0 && (int_le (negsuc 33554431) d && int_le d (pos 33554428))

-- the word with a distance in its low 24 bits: bits 2 to 25 of the distance
abbrev pub branch_field : ℕ → ℤ → Option ℕ
branch_field word d =
    if is_distance d then Some (word / 2 ^ 24 * 2 ^ 24 + cast_unsigned w32 d / 4 % 2 ^ 24) else None

-- the law
abbrev pub FieldsAreReadBack : Type 0
FieldsAreReadBack = (word : ℕ) → word < 2 ^ 32 → branch_field word (branch_addend word) ≡ Some word
