-- The fields of a line.
use Rattle.std.specs.Prelude.{ℕ, List, [], ◌∷◌, ◌==◌, nat_lt, length, filter, if◌then◌else◌}
use Rattle.fd_base.specs.Lines.{with_byte}

-- the parts before, between and behind the spaces, but for an empty part behind the last one
abbrev pub parts_of : List ℕ → List (List ℕ)
parts_of [] = []
parts_of (byte ∷ bytes) = if byte == 0x20 then [] ∷ parts_of bytes else with_byte byte (parts_of bytes)

-- The fields: the parts that have a byte. So one or more spaces part them, at both ends of the line too.
unfoldable pub fields_of : List ℕ → List (List ℕ)
fields_of line = filter (λ part. nat_lt 0 (length part)) (parts_of line)
