-- A statement whose mnemonic and operands are read is read.
use Rattle.std.proofs.Common.{◌≡◌, ℕ, suc, ◌+◌, ◌<◌, true, false, List, [], ◌∷◌, ◌++◌, length, map, refl, sym, ap, ◌∙◌, Some, None, Ok, arith}
use Rattle.std.specs.Prelude.{take, drop}
use Rattle.std.specs.List.{list_all, prefix_len}
use Rattle.std.proofs.lemmas.Bool.{and_parts}
use Rattle.a32_isa.specs.Allowed.{is_allowed}
use Rattle.a32_isa.specs.declared.instr.Instr.{Instr}
use Rattle.a32_isa.specs.Names.{condition_name}
use Rattle.a32_isa.specs.Text.{behind_space, mnemonic_of as mnemonic_text, op_name, operands_of as operand_texts, text_of}
use Rattle.a32_text.specs.Token.{Token, is_word, tokens_of, without_gap}
use Rattle.a32_text.specs.Operands.{operands_of, drafted}
use Rattle.a32_text.specs.Statement.{statement_of, instruction_of, statement_with, named_of, is_apart, Whole}
use Rattle.a32_text.specs.declared.head.Head.{Head}
use Rattle.a32_text.proofs.Naming.{IsRead}
use Rattle.a32_text.proofs.Names.{condition_word}
use Rattle.a32_text.proofs.Spelling.{spell}
use Rattle.a32_text.proofs.Pieces.{together, AllFine, operands_read}

-- ---- the word in front

-- how many bytes of a word stand before bytes that begin with none
abbrev NoneFirst : List ℕ → Type 0
NoneFirst [] = Unit {0}
NoneFirst (byte ∷ bytes) = is_word byte ≡ false

word_len_is : (word rest : List ℕ) → list_all is_word word ≡ true → NoneFirst rest → prefix_len is_word (word ++ rest) ≡ length word
word_len_is [] [] all none = refl
word_len_is [] (byte ∷ rest) all none = rw none refl
word_len_is (byte ∷ word) rest all none =
    let parts = and_parts (is_word byte) (list_all is_word word) all in
    let next : 1 + length word ≡ suc (length word) = omega arith in
    rw (parts.0, word_len_is word rest parts.1 none) next

taken : (word rest : List ℕ) → take (length word) (word ++ rest) ≡ word
taken [] rest = refl
taken (byte ∷ word) rest = ap (λ bytes. byte ∷ bytes) (taken word rest)

dropped : (word rest : List ℕ) → drop (length word) (word ++ rest) ≡ rest
dropped [] rest = refl
dropped (byte ∷ word) rest = dropped word rest

space_ends : (texts : List (List ℕ)) → NoneFirst (behind_space texts)
unfolding is_word
space_ends [] = tt
space_ends (text ∷ texts) = refl

apart : (texts : List (List ℕ)) → is_apart (behind_space texts) ≡ true
unfolding is_apart
apart [] = refl
apart (text ∷ texts) = refl

all_append : (a b : List ℕ) → list_all is_word a ≡ true → list_all is_word b ≡ true → list_all is_word (a ++ b) ≡ true
all_append [] b p q = q
all_append (byte ∷ a) b p q =
    let parts = and_parts (is_word byte) (list_all is_word a) p in
    rw (parts.0, all_append a b parts.1 q) refl

-- a text is taken apart into its mnemonic and what stands behind
split : (word : List ℕ) (texts : List (List ℕ)) → list_all is_word word ≡ true → statement_of (word ++ behind_space texts) ≡ instruction_of word (without_gap (tokens_of (behind_space texts)))
unfolding statement_of
split word texts all =
    let len = word_len_is word (behind_space texts) all (space_ends texts) in
    rw (len, taken word (behind_space texts), dropped word (behind_space texts), apart texts) refl

-- ---- whole statements

pub read_so : (i : Instr) (head : Head) (pieces : List (List Token)) → IsRead (op_name i.op) head → i.cond < 15 → map spell pieces ≡ operand_texts i.op → AllFine pieces
    → named_of i.cond head (together pieces) ≡ None → operands_of head (together pieces) ≡ Some (drafted i.op true) → is_allowed i.op ≡ true → statement_of (text_of i) ≡ Ok (Whole i)
unfolding text_of instruction_of statement_with
read_so i head pieces name below spelled fine unnamed read allowed =
    split (mnemonic_text i) (operand_texts i.op) (all_append (op_name i.op) (condition_name i.cond) name.0 (condition_word i.cond below))
    ∙ rw (name.1 i.cond below, sym spelled, operands_read pieces fine, unnamed, read, allowed) refl
