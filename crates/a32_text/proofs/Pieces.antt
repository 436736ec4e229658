-- Operands as tokens, and that they are spelt as they are printed.
use Rattle.std.proofs.Common.{◌≡◌, Bool, true, false, List, [], ◌∷◌, ◌++◌, map, refl, sym, ap, ◌∙◌, append_assoc}
use Rattle.std.specs.Prelude.{codes, ◌==◌, if◌then◌else◌}
use Rattle.a32_isa.specs.Text.{after, parted, behind_space}
use Rattle.a32_text.specs.Token.{Token, Word, Mark, Gap, COMMA, is_word, with_gap, without_gap, tokens_of}
use Rattle.a32_text.proofs.Scanning.{NoGap, NoWord, Other, without-with}
use Rattle.a32_text.proofs.Spelling.{spell, Clear, is_mark, spelt, space_first}

-- tokens with a comma before each
abbrev pub commas : List (List Token) → List Token
commas [] = []
commas (piece ∷ pieces) = Mark COMMA ∷ (piece ++ commas pieces)

abbrev pub together : List (List Token) → List Token
together [] = []
together (piece ∷ pieces) = piece ++ commas pieces

pub spell-append : (a b : List Token) → spell (a ++ b) ≡ spell a ++ spell b
spell-append [] b = refl
spell-append (Word word ∷ a) b = ap (λ rest. word ++ rest) (spell-append a b) ∙ sym (append_assoc word (spell a) (spell b))
spell-append (Gap ∷ a) b = ap (λ rest. codes " " ++ rest) (spell-append a b)
spell-append (Mark mark ∷ a) b = by_comma (mark == COMMA) (spell-append a b)
  where
    by_comma : (c : Bool) → spell (a ++ b) ≡ spell a ++ spell b → mark ∷ (if c then codes " " ++ spell (a ++ b) else spell (a ++ b)) ≡ (mark ∷ (if c then codes " " ++ spell a else spell a)) ++ spell b
    by_comma true e = ap (λ rest. mark ∷ (codes " " ++ rest)) e
    by_comma false e = ap (λ rest. mark ∷ rest) e

spell-commas : (pieces : List (List Token)) → spell (commas pieces) ≡ after (map spell pieces)
spell-commas [] = refl
spell-commas (piece ∷ pieces) = ap (λ rest. codes ", " ++ rest) (spell-append piece (commas pieces) ∙ ap (λ rest. spell piece ++ rest) (spell-commas pieces))

pub spell-together : (pieces : List (List Token)) → spell (together pieces) ≡ parted (map spell pieces)
spell-together [] = refl
spell-together (piece ∷ pieces) = spell-append piece (commas pieces) ∙ ap (λ rest. spell piece ++ rest) (spell-commas pieces)

-- ---- tokens that are clear of each other, piece by piece

abbrev pub Fine : List Token → Type 0
Fine piece = Clear piece × NoGap piece

abbrev pub AllFine : List (List Token) → Type 0
AllFine [] = Unit {0}
AllFine (piece ∷ pieces) = Fine piece × AllFine pieces

abbrev pub MarkFirst : List Token → Type 0
MarkFirst [] = Unit {0}
MarkFirst (Word word ∷ tokens) = ⊥
MarkFirst (Gap ∷ tokens) = ⊥
MarkFirst (Mark mark ∷ tokens) = Unit {0}

no_word-append : (a b : List Token) → NoWord a → MarkFirst b → NoWord (a ++ b)
unfolding NoWord
no_word-append [] [] h m = tt
no_word-append [] (Word word ∷ b) h m = m
no_word-append [] (Gap ∷ b) h m = tt
no_word-append [] (Mark mark ∷ b) h m = tt
no_word-append (Word word ∷ a) b h m = h
no_word-append (Gap ∷ a) b h m = tt
no_word-append (Mark mark ∷ a) b h m = tt

pub no_gap-append : (a b : List Token) → NoGap a → MarkFirst b → NoGap (a ++ b)
unfolding NoGap
no_gap-append [] [] h m = tt
no_gap-append [] (Word word ∷ b) h m = tt
no_gap-append [] (Gap ∷ b) h m = m
no_gap-append [] (Mark mark ∷ b) h m = tt
no_gap-append (Word word ∷ a) b h m = tt
no_gap-append (Gap ∷ a) b h m = h
no_gap-append (Mark mark ∷ a) b h m = tt

other-append : (a b : List Token) → Other a → Other (a ++ b)
unfolding Other
other-append [] b h = absurd h
other-append (Word word ∷ a) b h = tt
other-append (Gap ∷ a) b h = h
other-append (Mark mark ∷ a) b h = h

pub clear-append : (a b : List Token) → Clear a → MarkFirst b → Clear b → Clear (a ++ b)
clear-append [] b h m c = c
clear-append (Word word ∷ a) b h m c = (h.0, (no_word-append a b h.1.0 m, clear-append a b h.1.1 m c))
clear-append (Gap ∷ a) b h m c = (other-append a b h.0, clear-append a b h.1 m c)
clear-append (Mark mark ∷ a) b h m c = (h.0, (no_gap-append a b h.1.0 m, clear-append a b h.1.1 m c))

commas_first : (pieces : List (List Token)) → MarkFirst (commas pieces)
commas_first [] = tt
commas_first (piece ∷ pieces) = tt

comma_mark : is_mark COMMA ≡ true
unfolding is_mark is_word
comma_mark = refl

clear-commas : (pieces : List (List Token)) → AllFine pieces → Clear (commas pieces)
clear-commas [] h = tt
clear-commas (piece ∷ pieces) h =
    (comma_mark, (no_gap-append piece (commas pieces) h.0.1 (commas_first pieces), clear-append piece (commas pieces) h.0.0 (commas_first pieces) (clear-commas pieces h.1)))

pub clear-together : (pieces : List (List Token)) → AllFine pieces → Fine (together pieces)
clear-together [] h = (tt, unfold NoGap in tt)
clear-together (piece ∷ pieces) h =
    (clear-append piece (commas pieces) h.0.0 (commas_first pieces) (clear-commas pieces h.1), no_gap-append piece (commas pieces) h.0.1 (commas_first pieces))

-- the tokens behind a mnemonic whose operands are spelt so
pub operands_read : (pieces : List (List Token)) → AllFine pieces → without_gap (tokens_of (behind_space (map spell pieces))) ≡ together pieces
operands_read [] fine = unfold tokens_of in refl
operands_read (piece ∷ pieces) fine =
    let f = clear-together (piece ∷ pieces) fine in
    let spelled : tokens_of (parted (map spell (piece ∷ pieces))) ≡ together (piece ∷ pieces) = ap tokens_of (sym (spell-together (piece ∷ pieces))) ∙ spelt (together (piece ∷ pieces)) f.0 in
    ap without_gap (space_first (parted (map spell (piece ∷ pieces))) ∙ ap with_gap spelled) ∙ without-with (together (piece ∷ pieces)) f.1
