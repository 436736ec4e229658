-- Tokens by the bytes in front.
use Rattle.std.proofs.Common.{◌≡◌, ℕ, ◌<◌, ◌≤◌, zero, suc, Bool, true, false, not, List, [], ◌∷◌, length, get_or, refl, sym, ap, ◌∙◌, subst, arith, Some, None, inl, inr, ◌||◌, eqb-true, length-drop, get_or-drop, add-zero, ◌≢◌}
use Rattle.std.specs.Prelude.{take, drop, position, ◌==◌, if◌then◌else◌}
use Rattle.std.specs.List.{position_or_len, prefix_len}
use Rattle.std.proofs.lemmas.Bool.{cases_lt, lt-ltb, false≢true, ne_eqb}
use Rattle.std.proofs.lemmas.List.Quantifiers.{position-Some}
use Rattle.std.proofs.lemmas.List.Sums.{fails_before_first, position_or_len_is}
use Rattle.a32_text.specs.Token.{Token, Word, Mark, Gap, is_word, is_blank, COMMA, with_word, with_gap, without_gap, with_byte, tokens_of}

-- ---- gaps

unfoldable pub NoGap : List Token → Type 0
NoGap [] = Unit {0}
NoGap (Word bytes ∷ tokens) = Unit {0}
NoGap (Mark byte ∷ tokens) = Unit {0}
NoGap (Gap ∷ tokens) = ⊥

gap_gap : (tokens : List Token) → with_gap (with_gap tokens) ≡ with_gap tokens
gap_gap [] = refl
gap_gap (Gap ∷ tokens) = refl
gap_gap (Word bytes ∷ tokens) = refl
gap_gap (Mark byte ∷ tokens) = by_comma (byte == COMMA) refl
  where
    by_comma : (b : Bool) → (byte == COMMA) ≡ b → with_gap (if byte == COMMA then Mark byte ∷ tokens else Gap ∷ Mark byte ∷ tokens) ≡ (if byte == COMMA then Mark byte ∷ tokens else Gap ∷ Mark byte ∷ tokens)
    by_comma true e = rw e (rw e refl)
    by_comma false e = rw e refl

pub without-no_gap : (tokens : List Token) → NoGap tokens → without_gap tokens ≡ tokens
unfolding NoGap
without-no_gap [] h = refl
without-no_gap (Word bytes ∷ tokens) h = refl
without-no_gap (Mark byte ∷ tokens) h = refl
without-no_gap (Gap ∷ tokens) h = absurd h

pub without-with : (tokens : List Token) → NoGap tokens → without_gap (with_gap tokens) ≡ tokens
unfolding NoGap
without-with [] h = refl
without-with (Word bytes ∷ tokens) h = refl
without-with (Mark byte ∷ tokens) h = by_comma (byte == COMMA)
  where
    by_comma : (b : Bool) → without_gap (if b then Mark byte ∷ tokens else Gap ∷ Mark byte ∷ tokens) ≡ Mark byte ∷ tokens
    by_comma true = refl
    by_comma false = refl
without-with (Gap ∷ tokens) h = absurd h

-- ---- one byte

blank_word : (byte : ℕ) → is_blank byte ≡ true → is_word byte ≡ false
unfolding is_word
blank_word byte h = by_space (byte == 0x20) refl h
  where
    at : (n : ℕ) → byte ≡ n → is_word n ≡ false → is_word byte ≡ false
    at n e f = rw e f

    by_space : (b : Bool) → (byte == 0x20) ≡ b → (b || (byte == 0x09)) ≡ true → is_word byte ≡ false
    by_space true e p = at 0x20 (eqb-true byte 0x20 e) refl
    by_space false e p = at 0x09 (eqb-true byte 0x09 p) refl

pub blank_first : (byte : ℕ) (bytes : List ℕ) → is_blank byte ≡ true → tokens_of (byte ∷ bytes) ≡ with_gap (tokens_of bytes)
unfolding tokens_of with_byte
blank_first byte bytes h = rw (blank_word byte h, h) refl

pub word_first : (byte : ℕ) (bytes : List ℕ) → is_word byte ≡ true → tokens_of (byte ∷ bytes) ≡ with_word byte (tokens_of bytes)
unfolding tokens_of with_byte
word_first byte bytes h = rw h refl

no_gap_by : (word blank comment comma : Bool) (byte : ℕ) (tokens : List Token) → blank ≡ false
    → NoGap (if word then with_word byte tokens else if blank then with_gap tokens else if comment then [] else if comma then Mark byte ∷ without_gap tokens else Mark byte ∷ tokens)
unfolding NoGap
no_gap_by true blank comment comma byte [] e = tt
no_gap_by true blank comment comma byte (Word bytes ∷ tokens) e = tt
no_gap_by true blank comment comma byte (Mark mark ∷ tokens) e = tt
no_gap_by true blank comment comma byte (Gap ∷ tokens) e = tt
no_gap_by false true comment comma byte tokens e = absurd (false≢true (sym e))
no_gap_by false false true comma byte tokens e = tt
no_gap_by false false false true byte tokens e = tt
no_gap_by false false false false byte tokens e = tt

-- bytes whose first is no blank begin with no gap
pub no_gap : (bytes : List ℕ) → (0 < length bytes → is_blank (get_or bytes 0 0) ≡ false) → NoGap (tokens_of bytes)
unfolding tokens_of with_byte
no_gap [] h = unfold NoGap in tt
no_gap (byte ∷ bytes) h = no_gap_by (is_word byte) (is_blank byte) (byte == 0x40) (byte == COMMA) byte (tokens_of bytes) (h (omega arith))

-- ---- blanks in front

is_true : (b : Bool) → not b ≡ false → b ≡ true
is_true true e = refl
is_true false e = absurd (false≢true (sym e))

pub behind_some : (bytes : List ℕ) (i : ℕ) → ((k : ℕ) → k < i → not (is_blank (get_or bytes k 0)) ≡ false) → 0 < i → i ≤ length bytes → tokens_of bytes ≡ with_gap (tokens_of (drop i bytes))
behind_some [] i blanks some within = absurd (omega arith)
behind_some (byte ∷ bytes) zero blanks some within = absurd (omega arith)
behind_some (byte ∷ bytes) (suc zero) blanks some within = blank_first byte bytes (is_true (is_blank byte) (blanks 0 (omega arith)))
behind_some (byte ∷ bytes) (suc (suc i)) blanks some within =
    blank_first byte bytes (is_true (is_blank byte) (blanks 0 (omega arith)))
    ∙ ap with_gap (behind_some bytes (suc i) (λ k l. blanks (suc k) (omega arith)) (omega arith) (omega arith)) ∙ gap_gap (tokens_of (drop (suc i) bytes))

-- a test that no byte passes
pub none_pass : (test : ℕ → Bool) (bytes : List ℕ) → position test bytes ≡ None → (k : ℕ) → k < length bytes → test (get_or bytes k 0) ≡ false
none_pass test bytes e k l =
    elim (cases_lt (position_or_len test bytes) (length bytes)) [
      | inl lt ↦
          let found : position test bytes ≡ Some (position_or_len test bytes) = rw (lt-ltb _ _ lt) refl in
          let never : None ≡ Some (position_or_len test bytes) = sym e ∙ found in
          absurd cc
      | inr le ↦ fails_before_first test bytes k 0 (omega arith)
    ]

-- ---- words in front

word_word : (byte : ℕ) (bytes : List ℕ) (tokens : List Token) → with_word byte (Word bytes ∷ tokens) ≡ Word (byte ∷ bytes) ∷ tokens
word_word byte bytes tokens = refl

unfoldable pub NoWord : List Token → Type 0
NoWord [] = Unit {0}
NoWord (Word word ∷ tokens) = ⊥
NoWord (Mark mark ∷ tokens) = Unit {0}
NoWord (Gap ∷ tokens) = Unit {0}

pub alone : (byte : ℕ) (tokens : List Token) → NoWord tokens → with_word byte tokens ≡ Word (byte ∷ []) ∷ tokens
unfolding NoWord
alone byte [] h = refl
alone byte (Word word ∷ tokens) h = absurd h
alone byte (Mark mark ∷ tokens) h = refl
alone byte (Gap ∷ tokens) h = refl

no_word_by_comma : (m : ℕ) (tokens : List Token) (b : Bool) → NoWord (if b then Mark m ∷ tokens else Gap ∷ Mark m ∷ tokens)
unfolding NoWord
no_word_by_comma m tokens true = tt
no_word_by_comma m tokens false = tt

no_word_by : (word blank comment comma : Bool) (first : ℕ) (tokens : List Token) → word ≡ false
    → NoWord (if word then with_word first tokens else if blank then with_gap tokens else if comment then [] else if comma then Mark first ∷ without_gap tokens else Mark first ∷ tokens)
unfolding NoWord
no_word_by true blank comment comma first tokens e = absurd (false≢true (sym e))
no_word_by false true comment comma first [] e = tt
no_word_by false true comment comma first (Word w ∷ tokens) e = tt
no_word_by false true comment comma first (Mark m ∷ tokens) e = no_word_by_comma m tokens (m == COMMA)
no_word_by false true comment comma first (Gap ∷ tokens) e = tt
no_word_by false false true comma first tokens e = tt
no_word_by false false false true first tokens e = tt
no_word_by false false false false first tokens e = tt

no_word : (first : ℕ) (rest : List ℕ) → is_word first ≡ false → NoWord (tokens_of (first ∷ rest))
unfolding tokens_of with_byte
no_word first rest e = no_word_by (is_word first) (is_blank first) (first == 0x40) (first == COMMA) first (tokens_of rest) e

pub split_there : (bytes : List ℕ) (i : ℕ) → ((k : ℕ) → k < i → not (is_word (get_or bytes k 0)) ≡ false) → 0 < i → i < length bytes → is_word (get_or bytes i 0) ≡ false
    → tokens_of bytes ≡ Word (take i bytes) ∷ tokens_of (drop i bytes)
split_there [] i words some within here = absurd (omega arith)
split_there (byte ∷ bytes) zero words some within here = absurd (omega arith)
split_there (byte ∷ []) (suc zero) words some within here = absurd (omega arith)
split_there (byte ∷ next ∷ bytes) (suc zero) words some within here =
    word_first byte (next ∷ bytes) (is_true (is_word byte) (words 0 (omega arith))) ∙ alone byte (tokens_of (next ∷ bytes)) (no_word next bytes here)
split_there (byte ∷ bytes) (suc (suc i)) words some within here =
    word_first byte bytes (is_true (is_word byte) (words 0 (omega arith)))
    ∙ ap (with_word byte) (split_there bytes (suc i) (λ k l. words (suc k) (omega arith)) (omega arith) (omega arith) here)

pub one_word : (bytes : List ℕ) → 0 < length bytes → ((k : ℕ) → k < length bytes → not (is_word (get_or bytes k 0)) ≡ false) → tokens_of bytes ≡ Word bytes ∷ []
one_word [] some words = absurd (omega arith)
one_word (byte ∷ []) some words = word_first byte [] (is_true (is_word byte) (words 0 (omega arith))) ∙ (unfold tokens_of in refl)
one_word (byte ∷ next ∷ bytes) some words =
    word_first byte (next ∷ bytes) (is_true (is_word byte) (words 0 (omega arith))) ∙ ap (with_word byte) (one_word (next ∷ bytes) (omega arith) (λ k l. words (suc k) (omega arith)))

-- ---- what the code finds

is_false : (b : Bool) → not b ≡ true → b ≡ false
is_false true e = absurd (false≢true e)
is_false false e = refl

pub behind_first : (bytes : List ℕ) (i : ℕ) → position (λ byte. not (is_blank byte)) bytes ≡ Some i → length (drop i bytes) < length bytes → tokens_of bytes ≡ with_gap (tokens_of (drop i bytes))
behind_first bytes i e less =
    let s = position-Some (λ byte. not (is_blank byte)) bytes i 0 e in
    behind_some bytes i s.2 (moved bytes i less) (omega (arith, s.0))
  where
    moved : (bytes : List ℕ) (i : ℕ) → length (drop i bytes) < length bytes → 0 < i
    moved bytes zero less = absurd (omega arith)
    moved bytes (suc i) less = omega arith

pub kept_all : (bytes : List ℕ) (i : ℕ) → length bytes ≤ length (drop i bytes) → drop i bytes ≡ bytes
kept_all bytes zero h = refl
kept_all [] (suc i) h = refl
kept_all (byte ∷ bytes) (suc i) h = absurd (let less = length-drop i bytes in omega arith)

pub not_first : (bytes : List ℕ) (i : ℕ) → position (λ byte. not (is_blank byte)) bytes ≡ Some i → is_blank (get_or (drop i bytes) 0 0) ≡ false
not_first bytes i e =
    let s = position-Some (λ byte. not (is_blank byte)) bytes i 0 e in
    rw get_or-drop (rw add-zero (is_false (is_blank (get_or bytes i 0)) s.1))

pub all_blank : (bytes : List ℕ) → position (λ byte. not (is_blank byte)) bytes ≡ None → 0 < length bytes → tokens_of bytes ≡ with_gap (tokens_of [])
all_blank bytes e some =
    behind_some bytes (length bytes) (none_pass (λ byte. not (is_blank byte)) bytes e) some (omega arith) ∙ ap (λ rest. with_gap (tokens_of rest)) (drop_all bytes)
  where
    drop_all : (xs : List ℕ) → drop (length xs) xs ≡ []
    drop_all [] = refl
    drop_all (x ∷ xs) = drop_all xs

pub empty_same : (bytes : List ℕ) → length bytes ≤ 0 → ◌≡◌ {A = List ℕ} [] bytes
empty_same [] h = refl
empty_same (byte ∷ bytes) h = absurd (omega arith)

pub split_at : (bytes : List ℕ) (i : ℕ) → position (λ byte. not (is_word byte)) bytes ≡ Some i → 0 < length bytes → is_word (get_or bytes 0 0) ≡ true → tokens_of bytes ≡ Word (take i bytes) ∷ tokens_of (drop i bytes)
split_at bytes i e some first =
    let s = position-Some (λ byte. not (is_word byte)) bytes i 0 e in
    split_there bytes i s.2 (later i s.1) s.0 (is_false (is_word (get_or bytes i 0)) s.1)
  where
    later : (i : ℕ) → not (is_word (get_or bytes i 0)) ≡ true → 0 < i
    later zero h = absurd (false≢true (sym (is_false (is_word (get_or bytes 0 0)) h) ∙ first))
    later (suc i) h = omega arith

pub word_to_end : (bytes : List ℕ) → position (λ byte. not (is_word byte)) bytes ≡ None → 0 < length bytes → tokens_of bytes ≡ Word bytes ∷ tokens_of []
word_to_end bytes e some = one_word bytes some (none_pass (λ byte. not (is_word byte)) bytes e) ∙ ap (λ tokens. Word bytes ∷ tokens) (unfold tokens_of in refl)

-- ---- the next token

-- the bytes behind the blanks in front of others
pub record Behind (bytes rest : List ℕ) : Type 0 where
  pub gap : length rest < length bytes → tokens_of bytes ≡ with_gap (tokens_of rest)
  pub same : length bytes ≤ length rest → rest ≡ bytes
  pub first : 0 < length rest → is_blank (get_or rest 0 0) ≡ false

pub behind_is : (bytes rest : List ℕ) → Behind bytes rest → (P : List Token → Type 0) → P (tokens_of rest) → P (with_gap (tokens_of rest)) → P (tokens_of bytes)
behind_is bytes rest b P p q =
    elim (cases_lt (length rest) (length bytes)) [ inl lt ↦ subst P (sym (b.gap lt)) q | inr le ↦ subst (λ r. P (tokens_of r)) (b.same le) p ]

pub new_scan : (bytes rest : List ℕ) → Behind bytes rest → tokens_of rest ≡ without_gap (tokens_of bytes)
new_scan bytes rest b =
    let none = no_gap rest b.first in
    behind_is bytes rest b (λ tokens. tokens_of rest ≡ without_gap tokens) (sym (without-no_gap (tokens_of rest) none)) (sym (without-with (tokens_of rest) none))

pub none_left : (bytes rest : List ℕ) → Behind bytes rest → tokens_of rest ≡ [] → tokens_of bytes ≡ []
none_left bytes rest b e = behind_is bytes rest b (λ tokens. tokens ≡ []) e (ap with_gap e)

pub none_here : (rest : List ℕ) → length rest ≡ 0 → tokens_of rest ≡ []
none_here [] e = unfold tokens_of in refl
none_here (byte ∷ rest) e = absurd (omega arith)

pub comment_here : (rest : List ℕ) → 0 < length rest → get_or rest 0 0 ≡ 0x40 → tokens_of rest ≡ []
unfolding tokens_of with_byte is_word
comment_here [] some e = absurd (omega arith)
comment_here (byte ∷ rest) some e = let at : byte ≡ 0x40 = e in rw at refl

pub comma_here : (bytes rest behind : List ℕ) → Behind bytes rest → 0 < length rest → get_or rest 0 0 ≡ 0x2c → Behind (drop 1 rest) behind → tokens_of bytes ≡ Mark 0x2c ∷ tokens_of behind
unfolding tokens_of with_byte is_word
comma_here bytes [] behind b some e c = absurd (omega arith)
comma_here bytes (byte ∷ rest) behind b some e c =
    let at : byte ≡ 0x2c = e in
    let here : tokens_of (byte ∷ rest) ≡ Mark 0x2c ∷ tokens_of behind = rw at (ap (λ tokens. Mark 0x2c ∷ tokens) (sym (new_scan rest behind c))) in
    behind_is bytes (byte ∷ rest) b (λ tokens. tokens ≡ Mark 0x2c ∷ tokens_of behind) here (ap with_gap here)

-- any other token than a comma
unfoldable pub Other : List Token → Type 0
Other [] = ⊥
Other (Word bytes ∷ tokens) = Unit {0}
Other (Gap ∷ tokens) = ⊥
Other (Mark byte ∷ tokens) = (byte == COMMA) ≡ false

other_by : (word blank comment comma : Bool) (byte : ℕ) (tokens : List Token) → blank ≡ false → comment ≡ false → comma ≡ false → (byte == COMMA) ≡ false
    → Other (if word then with_word byte tokens else if blank then with_gap tokens else if comment then [] else if comma then Mark byte ∷ without_gap tokens else Mark byte ∷ tokens)
unfolding Other
other_by true blank comment comma byte [] e f g h = tt
other_by true blank comment comma byte (Word bytes ∷ tokens) e f g h = tt
other_by true blank comment comma byte (Mark mark ∷ tokens) e f g h = tt
other_by true blank comment comma byte (Gap ∷ tokens) e f g h = tt
other_by false true comment comma byte tokens e f g h = absurd (false≢true (sym e))
other_by false false true comma byte tokens e f g h = absurd (false≢true (sym f))
other_by false false false true byte tokens e f g h = absurd (false≢true (sym g))
other_by false false false false byte tokens e f g h = h

pub gap_before : (tokens : List Token) → Other tokens → with_gap tokens ≡ Gap ∷ tokens
unfolding Other
gap_before [] h = absurd h
gap_before (Word bytes ∷ tokens) h = refl
gap_before (Gap ∷ tokens) h = absurd h
gap_before (Mark byte ∷ tokens) h = rw h refl

pub gap_here : (bytes rest : List ℕ) → Behind bytes rest → length rest < length bytes → 0 < length rest → get_or rest 0 0 ≢ 0x40 → get_or rest 0 0 ≢ 0x2c → tokens_of bytes ≡ Gap ∷ tokens_of rest
unfolding tokens_of with_byte
gap_here bytes [] b less some e f = absurd (omega arith)
gap_here bytes (byte ∷ rest) b less some e f =
    let comma = ne_eqb byte 0x2c f in
    b.gap less ∙ gap_before (tokens_of (byte ∷ rest)) (other_by (is_word byte) (is_blank byte) (byte == 0x40) (byte == COMMA) byte (tokens_of rest) (b.first some) (ne_eqb byte 0x40 e) comma comma)

pub word_here : (bytes rest word behind : List ℕ) → Behind bytes rest → length bytes ≤ length rest → tokens_of rest ≡ Word word ∷ tokens_of behind → tokens_of bytes ≡ Word word ∷ tokens_of behind
word_here bytes rest word behind b le e = ap tokens_of (sym (b.same le)) ∙ e

pub mark_by : (word blank comment comma : Bool) (byte : ℕ) (tokens : List Token) → word ≡ false → blank ≡ false → comment ≡ false → comma ≡ false
    → (if word then with_word byte tokens else if blank then with_gap tokens else if comment then [] else if comma then Mark byte ∷ without_gap tokens else Mark byte ∷ tokens) ≡ Mark byte ∷ tokens
mark_by word blank comment comma byte tokens d e f g = rw (d, e, f, g) refl

pub mark_here : (bytes rest : List ℕ) → Behind bytes rest → length bytes ≤ length rest → 0 < length rest → get_or rest 0 0 ≢ 0x40 → get_or rest 0 0 ≢ 0x2c → is_word (get_or rest 0 0) ≡ false
    → tokens_of bytes ≡ Mark (get_or rest 0 0) ∷ tokens_of (drop 1 rest)
unfolding tokens_of with_byte
mark_here bytes [] b le some e f g = absurd (omega arith)
mark_here bytes (byte ∷ rest) b le some e f g =
    ap tokens_of (sym (b.same le)) ∙ mark_by (is_word byte) (is_blank byte) (byte == 0x40) (byte == COMMA) byte (tokens_of rest) g (b.first some) (ne_eqb byte 0x40 e) (ne_eqb byte 0x2c f)

pub nothing : ◌≡◌ {A = List Token} (tokens_of []) []
unfolding tokens_of
nothing = refl

-- ---- the word in front

not_not : (b : Bool) → not (not b) ≡ b
not_not true = refl
not_not false = refl

len_is : (bytes : List ℕ) → position_or_len (λ byte. not (is_word byte)) bytes ≡ prefix_len is_word bytes
len_is [] = refl
len_is (byte ∷ bytes) = rw (not_not (is_word byte), len_is bytes) refl

-- where a byte that is of no word is found, and where none is
pub found_at : (bytes : List ℕ) (i : ℕ) → position (λ byte. not (is_word byte)) bytes ≡ Some i → prefix_len is_word bytes ≡ i
found_at bytes i e =
    let s = position-Some (λ byte. not (is_word byte)) bytes i 0 e in
    sym (len_is bytes) ∙ position_or_len_is (λ byte. not (is_word byte)) bytes i 0 (omega (arith, s.0)) s.2 (λ l. s.1)

pub found_nowhere : (bytes : List ℕ) → position (λ byte. not (is_word byte)) bytes ≡ None → prefix_len is_word bytes ≡ length bytes
found_nowhere bytes e =
    sym (len_is bytes) ∙ position_or_len_is (λ byte. not (is_word byte)) bytes (length bytes) 0 (omega arith) (none_pass (λ byte. not (is_word byte)) bytes e) (λ l. absurd (omega arith))

pub taken_all : (bytes : List ℕ) → take (length bytes) bytes ≡ bytes
taken_all [] = refl
taken_all (byte ∷ bytes) = ap (λ rest. byte ∷ rest) (taken_all bytes)

pub dropped_all : (bytes : List ℕ) → drop (length bytes) bytes ≡ []
dropped_all [] = refl
dropped_all (byte ∷ bytes) = dropped_all bytes
