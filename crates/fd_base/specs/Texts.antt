-- Numbers and names as text.
use Rattle.std.specs.Prelude.{ℕ, ◌+◌, ◌*◌, ◌^◌, List, [], ◌∷◌, ◌++◌, length, take, drop, codes, nat_le, nat_lt, nat_eq, ◌&&◌, not, ◌==◌, if◌then◌else◌, Bool, Option, Some, None}
use Rattle.std.specs.Char.{digit_value, is_digit}
use Rattle.std.specs.List.{list_all, flat_map}
use Rattle.std.specs.Int.{bytes_high_first}
use Rattle.hex.specs.Hex.{encode_lower}
use lib.Pointwise.{pointwise}

-- What digits stand for in a base: each one's value times the power of the base at its place. The last
-- digit's place is 0.
abbrev pub positional : ℕ → List ℕ → ℕ
positional base [] = 0
positional base (digit ∷ digits) = digit_value digit * base ^ length digits + positional base digits

-- the number of 1 to `most` digits of the base and of nothing else, where it is below 2^32
unfoldable pub numeral_of : ℕ → ℕ → List ℕ → Option ℕ
numeral_of base most digits =
    if nat_le 1 (length digits) && (nat_le (length digits) most && (list_all (λ d. is_digit d base) digits && nat_lt (positional base digits) (2 ^ 32)))
    then Some (positional base digits)
    else None

-- whether a field begins with `0x`
abbrev pub is_hexadecimal : List ℕ → Bool
is_hexadecimal field = pointwise nat_eq (take 2 field) (codes "0x")

-- the number of a field: behind `0x` up to eight hexadecimal digits, else up to ten decimal ones
unfoldable pub number_of : List ℕ → Option ℕ
number_of field = if is_hexadecimal field then numeral_of 16 8 (drop 2 field) else numeral_of 10 10 field

-- a word as `0x` and eight lower-case hexadecimal digits
unfoldable pub hex8 : ℕ → List ℕ
hex8 n = codes "0x" ++ encode_lower (bytes_high_first 4 n)

-- a byte as it is shown: itself from `!` to `~` but for `%`, else `%` and two lower-case hexadecimal digits
unfoldable pub shown_byte : ℕ → List ℕ
shown_byte byte =
    if nat_le 0x21 byte && (nat_le byte 0x7e && not (byte == 0x25))
    then byte ∷ []
    else codes "%" ++ encode_lower (byte ∷ [])

-- a name as it is shown
abbrev pub shown : List ℕ → List ℕ
shown name = flat_map shown_byte name
