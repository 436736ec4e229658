-- Ranges of addresses or of places: so many from a first one on.
use Rattle.std.specs.Prelude.{ℕ, ◌+◌, ◌&&◌, nat_le, nat_lt, Bool}

-- whether a place is one of the `len` from `start` on
abbrev pub is_in : ℕ → ℕ → ℕ → Bool
is_in start len at = nat_le start at && nat_lt at (start + len)

-- whether the `n` places from `at` on are among the `len` from `start` on
abbrev pub spans : ℕ → ℕ → ℕ → ℕ → Bool
spans start len at n = nat_le start at && nat_le (at + n) (start + len)
