-- The tokens of a line behind its mnemonic.
use Rattle.std.specs.Prelude.{take, drop, ℕ, Bool, ◌&&◌, ◌||◌, ◌==◌, nat_le, List, [], ◌∷◌, if◌then◌else◌}
use Rattle.std.specs.List.{prefix_len}

pub data Token : Type 0 where
  -- letters, digits, `_`, `.` and `$`, as many as stand together
  Word : List ℕ → Token
  -- any other byte than those, a blank and the `@` of a comment
  Mark : ℕ → Token
  -- blanks, which are no token at the ends and beside a comma
  Gap : Token

abbrev pub is_letter : ℕ → Bool
is_letter byte = (nat_le 0x61 byte && nat_le byte 0x7a) || (nat_le 0x41 byte && nat_le byte 0x5a)

abbrev pub is_decimal : ℕ → Bool
is_decimal byte = nat_le 0x30 byte && nat_le byte 0x39

-- a byte of names and numbers: a letter, a digit, `_`, `.` or `$`
unfoldable pub is_word : ℕ → Bool
is_word byte = is_letter byte || is_decimal byte || (byte == 0x5f) || (byte == 0x2e) || (byte == 0x24)

-- a space or a tab
abbrev pub is_blank : ℕ → Bool
is_blank byte = (byte == 0x20) || (byte == 0x09)

abbrev pub COMMA : ℕ
COMMA = 0x2c

-- a byte of a word before tokens
abbrev pub with_word : ℕ → List Token → List Token
with_word byte (Word bytes ∷ tokens) = Word (byte ∷ bytes) ∷ tokens
with_word byte tokens = Word (byte ∷ []) ∷ tokens

-- a blank before tokens
abbrev pub with_gap : List Token → List Token
with_gap [] = []
with_gap (Gap ∷ tokens) = Gap ∷ tokens
with_gap (Word bytes ∷ tokens) = Gap ∷ Word bytes ∷ tokens
with_gap (Mark byte ∷ tokens) = if byte == COMMA then Mark byte ∷ tokens else Gap ∷ Mark byte ∷ tokens

abbrev pub without_gap : List Token → List Token
without_gap (Gap ∷ tokens) = tokens
without_gap tokens = tokens

-- a byte before tokens
unfoldable pub with_byte : ℕ → List Token → List Token
with_byte byte tokens =
    if is_word byte then with_word byte tokens
    else if is_blank byte then with_gap tokens
    else if byte == 0x40 then []
    else if byte == COMMA then Mark byte ∷ without_gap tokens
    else Mark byte ∷ tokens

-- `@` begins a comment
unfoldable pub tokens_of : List ℕ → List Token
tokens_of [] = []
tokens_of (byte ∷ bytes) = with_byte byte (tokens_of bytes)

-- how many bytes of words stand in front
abbrev pub word_len : List ℕ → ℕ
word_len bytes = prefix_len is_word bytes

-- the word in front, which may be empty
abbrev pub front_word : List ℕ → List ℕ
front_word bytes = take (word_len bytes) bytes

-- what stands behind it
abbrev pub behind_word : List ℕ → List ℕ
behind_word bytes = drop (word_len bytes) bytes
