-- The texts that a name may have.
use Rattle.std.specs.Prelude.{◌≡◌, ℕ, ◌≤◌, ◌==◌, List, length, position, None}

-- 255 bytes at most, none of them zero
pub record IsString (text : List ℕ) : Type 0 where
  pub short : length text ≤ 255
  pub no_zero : position (λ b. b == 0) text ≡ None
