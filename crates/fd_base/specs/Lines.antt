-- The lines of a text.
use Rattle.std.specs.Prelude.{ℕ, List, [], ◌∷◌, ◌==◌, if◌then◌else◌}

-- the lines with a byte before the first of them
abbrev pub with_byte : ℕ → List (List ℕ) → List (List ℕ)
with_byte byte [] = (byte ∷ []) ∷ []
with_byte byte (line ∷ lines) = (byte ∷ line) ∷ lines

-- Byte 0x0a ends a line. What stands behind the last one is a line too, unless it is empty.
abbrev pub lines_of : List ℕ → List (List ℕ)
lines_of [] = []
lines_of (byte ∷ bytes) = if byte == 0x0a then [] ∷ lines_of bytes else with_byte byte (lines_of bytes)

-- lines that are left of a text, and how many came before them
pub record Lines : Type 0 where
  pub before : ℕ
  pub left : List (List ℕ)
