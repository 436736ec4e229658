-- Fields of printed lines, each behind a space.
use Rattle.std.specs.Prelude.{ℕ, suc, List, [], ◌∷◌, ◌++◌, codes, decimal, Bool, Option, if◌then◌else◌}
use Rattle.std.specs.Option.{option_map_or}
use Rattle.hex.specs.Hex.{encode_lower}
use Rattle.fd_base.specs.Texts.{hex8, shown}

abbrev pub word_field : List ℕ → List ℕ
word_field word = codes " " ++ word

abbrev pub decimal_field : ℕ → List ℕ
decimal_field n = codes " " ++ decimal n

abbrev pub hex_field : ℕ → List ℕ
hex_field n = codes " " ++ hex8 n

-- a name as it is shown, a dash where there is none
abbrev pub name_word : Option (List ℕ) → List ℕ
name_word name = option_map_or shown name (codes "-")

abbrev pub name_field : Option (List ℕ) → List ℕ
name_field name = word_field (name_word name)

-- two lower-case hexadecimal digits for each byte, a dash where there is none
abbrev pub digits_of : List ℕ → List ℕ
digits_of [] = codes "-"
digits_of (byte ∷ bytes) = encode_lower (byte ∷ bytes)

abbrev pub digits_field : List ℕ → List ℕ
digits_field bytes = word_field (digits_of bytes)

-- ---- lines

-- the lines of items, from number i on
abbrev pub numbered : {X : Type 0} → (ℕ → X → List ℕ) → ℕ → List X → List ℕ
numbered line i [] = []
numbered line i (x ∷ xs) = line i x ++ numbered line (suc i) xs

-- a line that is there or not
abbrev pub line_where : Bool → List ℕ → List ℕ
line_where b line = if b then line else []
