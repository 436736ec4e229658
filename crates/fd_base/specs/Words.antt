-- Little-endian numbers in a list of bytes (gABI, "Data Representation", encoding ELFDATA2LSB).
use Rattle.std.specs.Prelude.{ℕ, ◌+◌, List, ◌++◌, length, take, drop, Option, Some, None, nat_le, if◌then◌else◌}
use Rattle.std.specs.List.{flat_map}
use Rattle.byteorder.specs.Endian.{little_number, little_bytes}

-- the word in the four bytes from a place on
unfoldable pub word_in : List ℕ → ℕ → ℕ
word_in bytes at = little_number 4 (drop at bytes)

-- the halfword in the two bytes from a place on
unfoldable pub half_in : List ℕ → ℕ → ℕ
half_in bytes at = little_number 2 (drop at bytes)

-- the word at a place, and none where it passes the end
abbrev pub word_at : List ℕ → ℕ → Option ℕ
word_at bytes at = if nat_le (at + 4) (length bytes) then Some (word_in bytes at) else None

-- the halfword at a place, and none where it passes the end
abbrev pub half_at : List ℕ → ℕ → Option ℕ
half_at bytes at = if nat_le (at + 2) (length bytes) then Some (half_in bytes at) else None

-- the bytes with a word put at a place
abbrev pub with_word : List ℕ → ℕ → ℕ → List ℕ
with_word bytes at v = take at bytes ++ little_bytes 4 v ++ drop (at + 4) bytes

-- the bytes of words, one behind the other
abbrev pub word_bytes : List ℕ → List ℕ
word_bytes words = flat_map (little_bytes 4) words
