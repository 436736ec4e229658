-- What a line says, or what is wrong with it, for one that stands in `.bss` or elsewhere.
use Rattle.std.specs.Prelude.{ℕ, Bool, true, ◌&&◌, ◌==◌, nat_lt, List, [], ◌∷◌, length, drop, Option, Some, None, Result, Ok, Err, if◌then◌else◌}
use Rattle.std.specs.Option.{option_map_or}
use Rattle.a32_text.specs.Token.{front_word, behind_word}
use Rattle.a32_text.specs.Word.{is_name}
use Rattle.a32_text.specs.Statement.{Statement as Instruction, is_apart, statement_of as instruction_of}
use Rattle.a32_text.specs.declared.refusal.AsmKind.{AsmKind}
use Rattle.a32_text.specs.declared.refusal.AsmKind.TheVariants as wrong
use Rattle.a32_asm.specs.declared.directive.Directive.{Directive}
use Rattle.a32_asm.specs.declared.line.TheConstants.{LINE_MAX}
use Rattle.a32_asm.specs.Said.{Said, Statement, Nothing, Instr}
use Rattle.a32_asm.specs.Bytes.{behind_blanks, begins_with}
use Rattle.a32_asm.specs.Directive.{directive_of, is_filling, operands_of}

-- ---- statements

-- whether nothing is left but a comment
abbrev pub is_over : List ℕ → Bool
is_over [] = true
is_over (byte ∷ bytes) = byte == 0x40

-- in `.bss` a known instruction stands in the wrong section, whatever its operands
abbrev pub wrong_in_bss : AsmKind → AsmKind
wrong_in_bss wrong.Mnemonic = wrong.Mnemonic
wrong_in_bss kind = wrong.Directive

abbrev pub of_instruction : Bool → Result Instruction AsmKind → Result Statement AsmKind
of_instruction in_bss (Ok i) = if in_bss then Err wrong.Directive else Ok (Instr i)
of_instruction in_bss (Err kind) = Err (if in_bss then wrong_in_bss kind else kind)

abbrev pub of_known : Bool → List ℕ → Directive → Result Statement AsmKind
of_known in_bss rest directive = if in_bss && is_filling directive then Err wrong.Directive else operands_of directive rest

-- a directive and what stands behind it
unfoldable pub of_directive : Bool → List ℕ → Result Statement AsmKind
of_directive in_bss text =
    if is_apart (behind_word text)
    then option_map_or (of_known in_bss (behind_word text)) (directive_of (front_word text)) (Err wrong.Directive)
    else Err wrong.Directive

-- directives begin with `.`, and instructions with no such byte
unfoldable pub statement_of : Bool → List ℕ → Result Statement AsmKind
statement_of in_bss text =
    if is_over text then Ok Nothing
    else if begins_with 0x2e text then of_directive in_bss text
    else of_instruction in_bss (instruction_of text)

-- ---- lines

abbrev pub labelled : Option (List ℕ) → Result Statement AsmKind → Result Said AsmKind
labelled label (Ok statement) = Ok (record { label = label; statement = statement })
labelled label (Err kind) = Err kind

-- a label is a name with `:` right behind it
unfoldable pub has_label : List ℕ → Bool
has_label text = is_name (front_word text) && begins_with 0x3a (behind_word text)

-- of a line from its first byte on that is no blank
unfoldable pub said_in : Bool → List ℕ → Result Said AsmKind
said_in in_bss text =
    if has_label text
    then labelled (Some (front_word text)) (statement_of in_bss (behind_blanks (drop 1 (behind_word text))))
    else labelled None (statement_of in_bss text)

unfoldable pub said_of : Bool → List ℕ → Result Said AsmKind
said_of in_bss line = if nat_lt LINE_MAX (length line) then Err wrong.LineLong else said_in in_bss (behind_blanks line)
