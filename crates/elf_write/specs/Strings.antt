-- Tables of strings (gABI, "String Table"): a zero byte, and then each name in order with a zero byte behind it, also
-- where two are the same. No name is at the zero byte in front.
use Rattle.std.specs.Prelude.{ℕ, ◌+◌, List, [], ◌∷◌, ◌++◌, length, Option, Some, None, is_some, if◌then◌else◌}
use Rattle.std.specs.List.{flat_map}

abbrev pub name_bytes : Option (List ℕ) → List ℕ
name_bytes None = []
name_bytes (Some name) = name ++ 0 ∷ []

abbrev pub strings : List (Option (List ℕ)) → List ℕ
strings names = 0 ∷ flat_map name_bytes names

-- where the next name begins, if this one would begin at an offset
abbrev pub behind : ℕ → Option (List ℕ) → ℕ
behind at name = at + length (name_bytes name)

-- the offset of a name that would begin at this one
abbrev pub place_of : ℕ → Option (List ℕ) → ℕ
place_of at name = if is_some name then at else 0
