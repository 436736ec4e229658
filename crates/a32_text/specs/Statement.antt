-- What a statement of an instruction says, or what is wrong with it.
use Rattle.std.specs.Prelude.{◌≡◌, ◌<◌, ℕ, Bool, true, not, ◌&&◌, ◌||◌, ◌==◌, List, [], ◌∷◌, Option, None, option_map, option_and_then, Result, Ok, Err, if◌then◌else◌}
use Rattle.std.specs.Option.{option_map_or}
use Rattle.a32_isa.specs.Allowed.{is_allowed}
use Rattle.a32_isa.specs.Table.{IsInstr}
use Rattle.a32_isa.specs.declared.instr.Instr.{Instr}
use Rattle.a32_text.specs.declared.head.Head.{Head}
use Rattle.a32_text.specs.declared.head.Head.TheVariants as heads
use Rattle.a32_text.specs.declared.fitting.Draft.{Draft}
use Rattle.a32_text.specs.declared.refusal.AsmKind.{AsmKind}
use Rattle.a32_text.specs.declared.refusal.AsmKind.TheVariants.{Mnemonic, Operand, Range}
use Rattle.a32_text.specs.Token.{Token, COMMA, is_blank, tokens_of, without_gap, front_word, behind_word}
use Rattle.a32_text.specs.Word.{mnemonic_of, is_name}
use Rattle.a32_text.specs.Taking.{ended, take_register, take_name}
use Rattle.a32_text.specs.Operands.{operands_of, last_behind_comma}

pub data Statement : Type 0 where
  -- an instruction with all its fields
  Whole : Instr → Statement
  -- a branch to a name: its condition, whether it links, the name
  Branch : ℕ → Bool → List ℕ → Statement
  -- a load from a name: its condition, its register, the name
  Literal : ℕ → ℕ → List ℕ → Statement

-- what no row takes is refused before a number that doesn't fit
abbrev pub checked : ℕ → Draft → Result Statement AsmKind
checked cond draft =
    if is_allowed draft.op then (if draft.fits then Ok (Whole (record { cond = cond; op = draft.op })) else Err Range) else Err Operand

-- a register, and a name in the place of an address
unfoldable pub literal_of : ℕ → List Token → Option Statement
literal_of cond tokens =
    option_and_then (λ (taken : ℕ × List Token). option_map (Literal cond taken.0) (last_behind_comma take_name taken.1)) (take_register tokens)

-- a name in the place of a number
abbrev pub branch_of : ℕ → Bool → List Token → Option Statement
branch_of cond link tokens = option_map (Branch cond link) (ended (take_name tokens))

-- a branch to a name, or a load of a word from one
unfoldable pub named_of : ℕ → Head → List Token → Option Statement
named_of cond (heads.Branch link) tokens = branch_of cond link tokens
named_of cond (heads.Mem load byte) tokens = if load && not byte then literal_of cond tokens else None
named_of cond head tokens = None

-- the statement of a mnemonic's head and condition, and the tokens behind it
unfoldable pub statement_with : ℕ → Head → List Token → Result Statement AsmKind
statement_with cond head tokens =
    option_map_or Ok (named_of cond head tokens) (option_map_or (checked cond) (operands_of head tokens) (Err Operand))

-- the statement of a mnemonic and the tokens behind it
unfoldable pub instruction_of : List ℕ → List Token → Result Statement AsmKind
instruction_of word tokens = option_map_or (λ m. statement_with m.cond m.head tokens) (mnemonic_of word) (Err Mnemonic)

-- the tokens of operands: blanks in front are none
abbrev pub operand_tokens : List ℕ → List Token
operand_tokens bytes = without_gap (tokens_of bytes)

-- whether a word may end before these bytes: at a blank, a comma or a comment, or where the text ends
unfoldable pub is_apart : List ℕ → Bool
is_apart [] = true
is_apart (byte ∷ bytes) = is_blank byte || (byte == COMMA) || (byte == 0x40)

-- the statement of a text that begins with a mnemonic
unfoldable pub statement_of : List ℕ → Result Statement AsmKind
statement_of text =
    if is_apart (behind_word text) then instruction_of (front_word text) (operand_tokens (behind_word text)) else Err Mnemonic

-- a statement whose fields are those of rows
abbrev pub IsStatement : Statement → Type 0
IsStatement (Whole i) = IsInstr i
IsStatement (Branch cond link name) = (cond < 15) × (is_name name ≡ true)
IsStatement (Literal cond d name) = (cond < 15) × (d < 16) × (is_name name ≡ true)
