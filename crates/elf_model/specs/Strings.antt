-- The strings of a table (gABI, "String Table").
use Rattle.std.specs.Prelude.{ℕ, ◌==◌, nat_lt, nat_le, List, length, position, take, drop, Option, Some, None, option_map, option_and_then, if◌then◌else◌}

-- The bytes from an offset of the strings up to the first zero byte. None where the offset isn't in the strings, or
-- no zero byte follows in them.
unfoldable pub text_at : List ℕ → ℕ → Option (List ℕ)
text_at strings k = option_map (λ n. take n (drop k strings)) (position (λ b. b == 0) (drop k strings))

-- a text that a name may have: 255 bytes at most
unfoldable pub string_at : List ℕ → ℕ → Option (List ℕ)
string_at strings k = option_and_then (λ text. if nat_le (length text) 255 then Some text else None) (text_at strings k)

-- a name, which has at least one byte
abbrev pub if_some_byte : List ℕ → Option (List ℕ)
if_some_byte text = if nat_lt 0 (length text) then Some text else None

unfoldable pub name_at : List ℕ → ℕ → Option (List ℕ)
name_at strings k = option_and_then if_some_byte (string_at strings k)
