-- Tests of registers and of codes of data operations.
use Rattle.std.specs.Prelude.{ℕ, ◌/◌, ◌%◌, ◌^◌, Bool, not, ◌&&◌, ◌||◌, ◌==◌, nat_le}

abbrev pub differs : ℕ → ℕ → Bool
differs a b = not (a == b)

-- a register other than r15, the program counter
abbrev pub is_general : ℕ → Bool
is_general r = differs r 15

-- tst, teq, cmp and cmn, which set the flags and write no register
abbrev pub is_comparison : ℕ → Bool
is_comparison op = nat_le 8 op && nat_le op 11

-- mov and mvn, which read no first operand
abbrev pub is_move : ℕ → Bool
is_move op = (op == 13) || (op == 15)

-- a register of the list of a multiple load or store, where bit r stands for register r
abbrev pub is_listed : ℕ → ℕ → Bool
is_listed list r = list / 2 ^ r % 2 == 1
