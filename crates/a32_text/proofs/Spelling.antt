-- Tokens that are spelt are read again.
use Rattle.std.proofs.Common.{◌≡◌, ℕ, ◌^◌, ◌<◌, ◌≤◌, Bool, true, false, not, ◌&&◌, ◌||◌, List, [], ◌∷◌, ◌++◌, length, refl, sym, ap, ◌∙◌, subst, arith, Some, eqb-true}
use Rattle.std.specs.Prelude.{codes, decimal, ◌==◌, if◌then◌else◌}
use Rattle.std.specs.List.{list_all}
use Rattle.std.proofs.lemmas.Bool.{and_parts, ne_eqb, lt-ltb, le-leb}
use Rattle.std.proofs.lemmas.Bool.Decides.{nat_tests}
use Rattle.std.specs.Char.{digit_value, is_digit}
use Rattle.std.specs.Str.Parse.{AllDigits}
use Rattle.std.proofs.lemmas.Fmt.{decimal_is_IsNumeral, length-decimal-le}
use Rattle.fd_base.specs.Texts.{number_of, numeral_of, positional, is_hexadecimal}
use Rattle.fd_base.proofs.Numerals.{digits_value_lem}
use Rattle.a32_text.specs.Token.{Token, Word, Mark, Gap, is_word, is_blank, COMMA, with_word, with_gap, with_byte, tokens_of}
use Rattle.a32_text.proofs.Scanning.{NoGap, NoWord, Other, alone, word_first, gap_before, without-with, mark_by}

-- the text of tokens, with a space behind each comma
abbrev pub spell : List Token → List ℕ
spell [] = []
spell (Word word ∷ tokens) = word ++ spell tokens
spell (Mark mark ∷ tokens) = mark ∷ (if mark == COMMA then codes " " ++ spell tokens else spell tokens)
spell (Gap ∷ tokens) = codes " " ++ spell tokens

-- the bytes of one word
pub record IsWord (word : List ℕ) : Type 0 where
  pub some : 0 < length word
  pub bytes : list_all is_word word ≡ true

-- a byte that is a token by itself
unfoldable pub is_mark : ℕ → Bool
is_mark byte = not (is_word byte || is_blank byte || (byte == 0x40))

-- no two tokens run together
abbrev pub Clear : List Token → Type 0
Clear [] = Unit {0}
Clear (Word word ∷ tokens) = IsWord word × (NoWord tokens × Clear tokens)
Clear (Mark mark ∷ tokens) = (is_mark mark ≡ true) × (NoGap tokens × Clear tokens)
Clear (Gap ∷ tokens) = Other tokens × Clear tokens

word_then : (word rest : List ℕ) → 0 < length word → list_all is_word word ≡ true → NoWord (tokens_of rest) → tokens_of (word ++ rest) ≡ Word word ∷ tokens_of rest
word_then [] rest some all none = absurd (omega arith)
word_then (byte ∷ []) rest some all none = word_first byte rest (and_parts (is_word byte) true all).0 ∙ alone byte (tokens_of rest) none
word_then (byte ∷ next ∷ word) rest some all none =
    let parts = and_parts (is_word byte) (list_all is_word (next ∷ word)) all in
    word_first byte ((next ∷ word) ++ rest) parts.0 ∙ ap (with_word byte) (word_then (next ∷ word) rest (omega arith) parts.1 none)

mark_parts : (w k c : Bool) → not (w || k || c) ≡ true → (w ≡ false) × (k ≡ false) × (c ≡ false)
mark_parts true k c h = absurd cc
mark_parts false true c h = absurd cc
mark_parts false false true h = absurd cc
mark_parts false false false h = (refl, refl, refl)

mark_other : (mark : ℕ) (bytes : List ℕ) → is_mark mark ≡ true → (mark == COMMA) ≡ false → tokens_of (mark ∷ bytes) ≡ Mark mark ∷ tokens_of bytes
unfolding tokens_of with_byte is_mark
mark_other mark bytes h e =
    let p = mark_parts (is_word mark) (is_blank mark) (mark == 0x40) h in
    mark_by (is_word mark) (is_blank mark) (mark == 0x40) (mark == COMMA) mark (tokens_of bytes) p.0 p.1 p.2 e

pub space_first : (bytes : List ℕ) → tokens_of (codes " " ++ bytes) ≡ with_gap (tokens_of bytes)
unfolding tokens_of with_byte is_word
space_first bytes = refl

comma_first : (bytes : List ℕ) → NoGap (tokens_of bytes) → tokens_of (COMMA ∷ (codes " " ++ bytes)) ≡ Mark COMMA ∷ tokens_of bytes
unfolding tokens_of with_byte is_word
comma_first bytes h = ap (λ tokens. Mark COMMA ∷ tokens) (without-with (tokens_of bytes) h)

pub spelt : (tokens : List Token) → Clear tokens → tokens_of (spell tokens) ≡ tokens
spelt [] h = unfold tokens_of in refl
spelt (Word word ∷ tokens) h =
    let rest = spelt tokens h.1.1 in
    word_then word (spell tokens) h.0.some h.0.bytes (subst NoWord (sym rest) h.1.0) ∙ ap (λ tokens. Word word ∷ tokens) rest
spelt (Gap ∷ tokens) h =
    let rest = spelt tokens h.1 in
    space_first (spell tokens) ∙ ap with_gap rest ∙ gap_before tokens h.0
spelt (Mark mark ∷ tokens) h = by_comma (mark == COMMA) refl (spelt tokens h.1.1)
  where
    by_comma : (b : Bool) → (mark == COMMA) ≡ b → tokens_of (spell tokens) ≡ tokens → tokens_of (mark ∷ (if mark == COMMA then codes " " ++ spell tokens else spell tokens)) ≡ Mark mark ∷ tokens
    by_comma false e rest = rw e (mark_other mark (spell tokens) h.0 e ∙ ap (λ tokens. Mark mark ∷ tokens) rest)
    by_comma true e rest =
        let at : mark ≡ COMMA = eqb-true mark COMMA e in
        rw e (ap (λ m. tokens_of (m ∷ (codes " " ++ spell tokens))) at ∙ comma_first (spell tokens) (subst NoGap (sym rest) h.1.0) ∙ ap (λ m. Mark COMMA ∷ m) rest ∙ ap (λ m. Mark m ∷ tokens) (sym at))

-- ---- numbers

decimal_digit : (byte : ℕ) → digit_value byte < 10 → is_word byte ≡ true
unfolding is_word
decimal_digit byte h = grind (arith, nat_tests)

digits_word : (digits : List ℕ) → AllDigits 10 digits → list_all is_word digits ≡ true
digits_word [] all = refl
digits_word (digit ∷ digits) all = rw (decimal_digit digit all.0, digits_word digits all.1) refl

pub decimal_word : (n : ℕ) → n < 2 ^ 32 → IsWord (decimal n)
decimal_word n h =
    let numeral = decimal_is_IsNumeral n (omega arith) in
    record { some = numeral.0.0; bytes = digits_word (decimal n) numeral.0.1 }

is_digit_true : (digit : ℕ) → digit_value digit < 10 → is_digit digit 10 ≡ true
is_digit_true digit h = lt-ltb (digit_value digit) 10 h

digits_all : (digits : List ℕ) → AllDigits 10 digits → list_all (λ d. is_digit d 10) digits ≡ true
digits_all [] all = refl
digits_all (digit ∷ digits) all = rw (is_digit_true digit all.0, digits_all digits all.1) refl

no_x : (digit : ℕ) → digit_value digit < 10 → (digit == 0x78) ≡ false
no_x digit h = ne_eqb digit 0x78 (λ e. no_digit (subst (λ d. digit_value d < 10) e h))
  where
    no_digit : digit_value 0x78 < 10 → ⊥
    no_digit l = omega arith

and_false : (a : Bool) → (a && false) ≡ false
and_false true = refl
and_false false = refl

not_hexadecimal : (digits : List ℕ) → AllDigits 10 digits → 0 < length digits → is_hexadecimal digits ≡ false
not_hexadecimal [] all some = absurd (omega arith)
not_hexadecimal (digit ∷ []) all some = and_false (digit == 0x30)
not_hexadecimal (digit ∷ second ∷ digits) all some = rw (no_x second all.1.0) (and_false (digit == 0x30))

pub decimal_read : (n : ℕ) → n < 2 ^ 32 → number_of (decimal n) ≡ Some n
unfolding number_of numeral_of
decimal_read n h =
    let numeral = decimal_is_IsNumeral n (omega arith) in
    let value : positional 10 (decimal n) ≡ n = sym (digits_value_lem 10 (decimal n)) ∙ numeral.1 in
    let short : length (decimal n) ≤ 10 = length-decimal-le 10 n (omega arith) (omega arith) (omega arith) in
    rw (not_hexadecimal (decimal n) numeral.0.1 numeral.0.0) (
    rw (le-leb 1 (length (decimal n)) numeral.0.0, le-leb (length (decimal n)) 10 short, digits_all (decimal n) numeral.0.1, value, lt-ltb n (2 ^ 32) h) refl)
