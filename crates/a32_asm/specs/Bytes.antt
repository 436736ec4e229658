-- What stands in front of the bytes of a line.
use Rattle.std.specs.Prelude.{ℕ, Bool, false, ◌==◌, List, [], ◌∷◌, drop, Option, Some, None, if◌then◌else◌}
use Rattle.std.specs.List.{prefix_len}
use Rattle.a32_text.specs.Token.{is_blank}

-- the bytes from the first on that is no blank
abbrev pub behind_blanks : List ℕ → List ℕ
behind_blanks bytes = drop (prefix_len is_blank bytes) bytes

abbrev pub begins_with : ℕ → List ℕ → Bool
begins_with wanted [] = false
begins_with wanted (byte ∷ bytes) = byte == wanted

-- the bytes behind one that has to stand first
abbrev pub behind_byte : ℕ → List ℕ → Option (List ℕ)
behind_byte wanted [] = None
behind_byte wanted (byte ∷ bytes) = if byte == wanted then Some bytes else None
