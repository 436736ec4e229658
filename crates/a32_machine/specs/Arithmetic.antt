-- Sums with their carry and overflow (Arm ARM, DDI 0406C, A2.2.1, AddWithCarry).
use Rattle.std.specs.Prelude.{ℕ, ◌+◌, ◌-◌, ◌%◌, ◌^◌, ◌+ℤ◌, pos, Bool, true, false, not, ◌==◌}
use Rattle.std.specs.Int.{w32, cast_signed}
use Rattle.std.specs.Ordering.{int_eq}
use Rattle.a32_machine.specs.declared.arithmetic.Outcome.{Outcome}

abbrev pub number_of_bit : Bool → ℕ
number_of_bit true = 1
number_of_bit false = 0

-- the carry: the sum of the numbers isn't the result; the overflow: that of the signed numbers isn't
abbrev pub added : ℕ → ℕ → Bool → Outcome
added a b carry_in =
    let value = (a + b + number_of_bit carry_in) % 2 ^ 32 in
    record {
      value = value;
      carry = not (value == a + b + number_of_bit carry_in);
      overflow = not (int_eq (cast_signed w32 value) (cast_signed w32 a +ℤ cast_signed w32 b +ℤ pos (number_of_bit carry_in)));
    }

-- a word with each bit turned
abbrev pub inverted : ℕ → ℕ
inverted x = 2 ^ 32 - 1 - x
