-- Directives: their names, and what stands behind them.
use Rattle.std.specs.Prelude.{ℕ, Bool, true, false, not, ◌&&◌, ◌==◌, nat_le, List, [], ◌∷◌, take, drop, codes, Option, Some, None, option_map, option_and_then, Result, Ok, Err, if◌then◌else◌}
use Rattle.std.specs.Option.{option_or, option_map_or}
use Rattle.std.specs.List.{list_any, prefix_len}
use Rattle.std.specs.Str.{bytes_eq}
use Rattle.fd_base.specs.Texts.{number_of}
use Rattle.elf_model.specs.declared.constants.TheConstants.{STT_OBJECT, STT_FUNC, STV_HIDDEN, STV_PROTECTED, R_ARM_ABS32, R_ARM_GOT_BREL, R_ARM_GOTOFF32, R_ARM_GOTFUNCDESC, R_ARM_GOTOFFFUNCDESC, R_ARM_FUNCDESC}
use Rattle.a32_text.specs.Token.{Token}
use Rattle.a32_text.specs.Word.{is_name, numbered}
use Rattle.a32_text.specs.Taking.{Taken, followed, ended, behind_mark, behind_gap, take_by, take_word, take_name, take_number}
use Rattle.a32_text.specs.Statement.{operand_tokens}
use Rattle.a32_text.specs.declared.refusal.AsmKind.{AsmKind}
use Rattle.a32_text.specs.declared.refusal.AsmKind.TheVariants.{Operand, Range}
use Rattle.a32_asm.specs.declared.directive.Directive.{Directive}
use Rattle.a32_asm.specs.declared.directive.Directive.TheVariants as directive
use Rattle.a32_asm.specs.declared.operands.TheConstants.{ALIGNS}
use Rattle.a32_asm.specs.declared.section.TheConstants.{SECTIONS}
use Rattle.a32_asm.specs.Section.{section_name}
use Rattle.a32_asm.specs.Said.{Statement, Section, Bind, Show, Kind, Word, WordOf, Byte, Text, Space, Align}
use Rattle.a32_asm.specs.Bytes.{behind_blanks, behind_byte}

-- ---- names

-- those that say something of a name
unfoldable pub naming : List ℕ → Option Directive
naming word =
    if bytes_eq word (codes ".global") then Some (directive.Bind false)
    else if bytes_eq word (codes ".weak") then Some (directive.Bind true)
    else if bytes_eq word (codes ".hidden") then Some (directive.Show STV_HIDDEN)
    else if bytes_eq word (codes ".protected") then Some (directive.Show STV_PROTECTED)
    else if bytes_eq word (codes ".type") then Some directive.Kind
    else None

-- those that put bytes
unfoldable pub putting : List ℕ → Option Directive
putting word =
    if bytes_eq word (codes ".word") then Some directive.Word
    else if bytes_eq word (codes ".byte") then Some directive.Byte
    else if bytes_eq word (codes ".asciz") then Some directive.Asciz
    else if bytes_eq word (codes ".space") then Some directive.Space
    else if bytes_eq word (codes ".align") then Some directive.Align
    else None

unfoldable pub directive_of : List ℕ → Option Directive
directive_of word =
    option_or (option_map directive.Section (numbered section_name SECTIONS word)) (option_or (naming word) (putting word))

-- whether it puts bytes that need not be zeros: in `.bss` none may
abbrev pub is_filling : Directive → Bool
is_filling directive.Word = true
is_filling directive.Byte = true
is_filling directive.Asciz = true
is_filling (directive.Section number) = false
is_filling (directive.Bind weak) = false
is_filling (directive.Show visibility) = false
is_filling directive.Kind = false
is_filling directive.Space = false
is_filling directive.Align = false

-- ---- operands

-- a name, and nothing behind it
abbrev pub lone_name : List Token → Option (List ℕ)
lone_name tokens = ended (take_name tokens)

abbrev pub lone_number : List Token → Option ℕ
lone_number tokens = ended (take_number tokens)

unfoldable pub kind_of : List ℕ → Option ℕ
kind_of word =
    if bytes_eq word (codes "func") then Some STT_FUNC
    else if bytes_eq word (codes "object") then Some STT_OBJECT
    else None

-- a name, blanks and its type
unfoldable pub take_kind : List Token → Taken Statement
take_kind tokens =
    followed (take_name tokens) (λ name rest. followed (option_and_then (take_by kind_of) (behind_gap rest)) (λ kind last. Some (Kind name kind, last)))

unfoldable pub relocation_of : List ℕ → Option ℕ
relocation_of word =
    if bytes_eq word (codes "GOT") then Some R_ARM_GOT_BREL
    else if bytes_eq word (codes "GOTOFF") then Some R_ARM_GOTOFF32
    else if bytes_eq word (codes "GOTFUNCDESC") then Some R_ARM_GOTFUNCDESC
    else if bytes_eq word (codes "GOTOFFFUNCDESC") then Some R_ARM_GOTOFFFUNCDESC
    else if bytes_eq word (codes "FUNCDESC") then Some R_ARM_FUNCDESC
    else None

-- what is added to a name
unfoldable pub take_added : List ℕ → List Token → Taken Statement
take_added name tokens = followed (take_number tokens) (λ add rest. Some (WordOf name R_ARM_ABS32 add, rest))

-- an operator and the bracket behind it
unfoldable pub take_operator : List ℕ → List Token → Taken Statement
take_operator name tokens =
    followed (take_by relocation_of tokens) (λ kind rest. option_map (λ last. (WordOf name kind 0, last)) (behind_mark 0x29 rest))

-- behind a name `+` and a number, an operator in brackets, or nothing
unfoldable pub take_behind_name : List ℕ → List Token → Taken Statement
take_behind_name name tokens =
    option_map_or (take_added name) (behind_mark 0x2b tokens)
    (option_map_or (take_operator name) (behind_mark 0x28 tokens) (Some (WordOf name R_ARM_ABS32 0, tokens)))

-- a number, or something with a name
unfoldable pub take_value : List Token → Taken Statement
take_value tokens =
    followed (take_word tokens) (λ word rest. if is_name word then take_behind_name word rest else option_map (λ n. (Word n, rest)) (number_of word))

abbrev pub QUOTE : ℕ
QUOTE = 0x22

-- a byte of a string
unfoldable pub is_of_text : ℕ → Bool
is_of_text byte = nat_le 0x20 byte && (nat_le byte 0x7e && not (byte == QUOTE))

abbrev pub text_len : List ℕ → ℕ
text_len bytes = prefix_len is_of_text bytes

abbrev pub is_nothing : List Token → Bool
is_nothing [] = true
is_nothing (token ∷ tokens) = false

-- a string whose first quote is taken, with nothing behind its last one
unfoldable pub closed_text : List ℕ → Option (List ℕ)
closed_text bytes =
    option_and_then (λ rest. if is_nothing (operand_tokens rest) then Some (take (text_len bytes) bytes) else None)
    (behind_byte QUOTE (drop (text_len bytes) bytes))

-- a string in quotes, behind blanks
unfoldable pub text_of : List ℕ → Option (List ℕ)
text_of bytes = option_and_then closed_text (behind_byte QUOTE (behind_blanks bytes))

-- ---- what a directive says

abbrev pub byte_of : ℕ → Result Statement AsmKind
byte_of n = if nat_le n 255 then Ok (Byte n) else Err Range

-- a power of two up to 4,096
abbrev pub is_align : ℕ → Bool
is_align n = list_any (λ align. align == n) ALIGNS

abbrev pub align_of : ℕ → Result Statement AsmKind
align_of n = if is_align n then Ok (Align n) else Err Range

abbrev pub formed : Option Statement → Result Statement AsmKind
formed statement = option_map_or Ok statement (Err Operand)

unfoldable pub operands_of : Directive → List ℕ → Result Statement AsmKind
operands_of (directive.Section number) rest = if is_nothing (operand_tokens rest) then Ok (Section number) else Err Operand
operands_of (directive.Bind weak) rest = formed (option_map (λ name. Bind name weak) (lone_name (operand_tokens rest)))
operands_of (directive.Show visibility) rest = formed (option_map (λ name. Show name visibility) (lone_name (operand_tokens rest)))
operands_of directive.Kind rest = formed (ended (take_kind (operand_tokens rest)))
operands_of directive.Word rest = formed (ended (take_value (operand_tokens rest)))
operands_of directive.Byte rest = option_map_or byte_of (lone_number (operand_tokens rest)) (Err Operand)
operands_of directive.Asciz rest = formed (option_map Text (text_of rest))
operands_of directive.Space rest = formed (option_map Space (lone_number (operand_tokens rest)))
operands_of directive.Align rest = option_map_or align_of (lone_number (operand_tokens rest)) (Err Operand)
