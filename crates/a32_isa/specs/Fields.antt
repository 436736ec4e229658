-- A word as fields, from its high bits to its low ones.
use Rattle.std.specs.Prelude.{ℕ, ◌+◌, ◌*◌, ◌/◌, ◌%◌, ◌^◌, ◌<◌, Bool, true, false, List, [], ◌∷◌, ◌==◌}

-- some bits side by side, and the number that they are
pub record Field : Type 0 where
  pub width : ℕ
  pub value : ℕ

-- `4 of 13` is the field 1101
infixl 90 ◌of◌
abbrev pub ◌of◌ : ℕ → ℕ → Field
width of value = record { width = width; value = value }

-- a flag of one bit
abbrev pub bit : Bool → ℕ
bit true = 1
bit false = 0

-- how many bits the fields have together
abbrev pub width_of : List Field → ℕ
width_of [] = 0
width_of (f ∷ fs) = f.width + width_of fs

-- the number whose bits are these fields
abbrev pub number_of : List Field → ℕ
number_of [] = 0
number_of (f ∷ fs) = f.value * 2 ^ width_of fs + number_of fs

-- each value has no more bits than its field
abbrev pub Fit : List Field → Type 0
Fit [] = Unit {0}
Fit (f ∷ fs) = (f.value < 2 ^ f.width) × Fit fs

-- the bits of a word from a place up
abbrev pub field : ℕ → ℕ → ℕ → ℕ
field word low width = word / 2 ^ low % 2 ^ width

-- one bit of a word as a flag
abbrev pub flag : ℕ → ℕ → Bool
flag word low = field word low 1 == 1
