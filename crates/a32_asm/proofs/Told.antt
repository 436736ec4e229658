-- What lines say, beside its value: names are names, numbers have room, and `.bss` has no words.
use Rattle.std.proofs.Common.{◌≡◌, ℕ, zero, suc, ◌+◌, ◌<◌, cond, ◌≤◌, Bool, true, false, ◌&&◌, not, List, [], ◌∷◌, Option, Some, None, Result, Ok, Err, refl, subst, inl, inr, eqb-true, arith, length}
use Rattle.std.specs.Prelude.{IfSome, IfOk, if◌then◌else◌, ◌==◌, nat_le, nat_lt, drop, option_map, option_and_then, codes}
use Rattle.std.specs.Option.{option_or, option_map_or}
use Rattle.std.specs.List.{list_any, list_all, range_with_len, find}
use Rattle.std.specs.Str.{bytes_eq}
use Rattle.std.proofs.lemmas.Bool.{and_parts, or_cases}
use Rattle.std.proofs.lemmas.Option.{IfSome_then}
use lib.Count.{ones}
use Rattle.fd_base.specs.Texts.{number_of}
use Rattle.elf_model.specs.RelSections.{is_section_align}
use Rattle.elf_model.specs.declared.constants.TheConstants.{STV_HIDDEN, STV_PROTECTED, STT_FUNC, STT_OBJECT, R_ARM_ABS32}
use Rattle.a32_text.specs.declared.refusal.AsmKind.{AsmKind}
use Rattle.a32_text.specs.declared.refusal.AsmKind.TheVariants.{Operand, Range, Mnemonic}
use Rattle.a32_text.specs.declared.refusal.AsmKind.TheVariants as wrong
use Rattle.a32_text.specs.declared.fitting.Draft.{Draft}
use Rattle.a32_text.specs.declared.head.Head.{Head}
use Rattle.a32_text.specs.declared.head.Head.TheVariants as heads
use Rattle.a32_isa.specs.Allowed.{is_allowed}
use Rattle.a32_text.specs.Token.{Token, COMMA, front_word, behind_word}
use Rattle.a32_text.specs.Word.{is_name, numbered, mnemonic_of}
use Rattle.a32_text.specs.Taking.{followed, ended, behind_mark, behind_gap, take_by, take_word, take_name, take_number, take_register}
use Rattle.a32_text.specs.Operands.{operands_of as draft_of, last_behind_comma}
use Rattle.a32_text.specs.Statement.{Statement as Instruction, checked, literal_of, branch_of, named_of, statement_with, instruction_of, operand_tokens, is_apart, statement_of as instruction_in}
use Rattle.a32_text.specs.Statement as instruction
use Rattle.a32_asm.specs.declared.directive.Directive.{Directive}
use Rattle.a32_asm.specs.declared.directive.Directive.TheVariants as directive
use Rattle.a32_asm.specs.declared.operands.TheConstants.{ALIGNS}
use Rattle.a32_asm.specs.declared.line.TheConstants.{LINE_MAX}
use Rattle.a32_asm.specs.declared.section.TheConstants.{SECTIONS}
use Rattle.a32_asm.specs.Section.{section_name}
use Rattle.a32_asm.specs.Said.{Said, Statement, Nothing, Instr, Section, Bind, Show, Kind, Word, WordOf, Byte, Text, Space, Align}
use Rattle.a32_asm.specs.Directive.{naming, putting, directive_of, is_filling, lone_name, lone_number, kind_of, take_kind, relocation_of, take_added, take_operator, take_behind_name, take_value, text_of, byte_of, is_align, align_of, formed, operands_of, is_nothing}
use Rattle.a32_asm.specs.Line.{is_over, of_instruction, of_known, of_directive, statement_of, labelled, has_label, said_in, said_of}
use Rattle.a32_asm.specs.Bytes.{behind_blanks, begins_with}
use Rattle.a32_asm.specs.Layout.{name_of}
use Rattle.a32_asm.specs.parts.Fits.{IsDirective}
use Rattle.a32_asm.proofs.Having.{any_some, if_some, if_either, map_some, then_some, or_some, map_or_some, if_ok, map_or_ok, followed_some, ended_some}

abbrev pub IsName : List ℕ → Type 0
IsName name = is_name name ≡ true

-- what a statement of `.bss` or of another section says
abbrev pub IsTold : Bool → Statement → Type 0
IsTold in_bss Nothing = Unit {0}
IsTold in_bss (Instr i) = (in_bss ≡ false) × IfSome (name_of i) IsName
IsTold in_bss (Section number) = number < SECTIONS
IsTold in_bss (Bind name weak) = IsName name
IsTold in_bss (Show name visibility) = IsName name × (visibility ≤ STV_PROTECTED)
IsTold in_bss (Kind name kind) = IsName name × (kind ≤ STT_FUNC)
IsTold in_bss (Word n) = in_bss ≡ false
IsTold in_bss (WordOf name kind add) = (in_bss ≡ false) × IsName name
IsTold in_bss (Byte n) = Unit {0}
IsTold in_bss (Text bytes) = Unit {0}
IsTold in_bss (Space n) = Unit {0}
IsTold in_bss (Align n) = is_section_align n ≡ true

-- and a line
abbrev pub IsToldBy : Bool → Said → Type 0
IsToldBy in_bss said = IfSome said.label IsName × IsTold in_bss said.statement

-- ---- names

abbrev IsNamed : {X : Type 0} → List ℕ × X → Type 0
IsNamed taken = IsName taken.0

name_taken : (tokens : List Token) → IfSome (take_name tokens) (λ taken. IsName taken.0)
unfolding take_name
name_taken tokens =
    followed_some (λ taken. IsName taken.0) (λ taken. Unit {0}) (take_word tokens) (λ word rest. if is_name word then Some (word, rest) else None) (any_some (take_word tokens))
    (λ taken h. if_some (λ taken. IsName taken.0) (is_name taken.0) (taken.0, taken.1) (λ e. e))

lone : (tokens : List Token) → IfSome (lone_name tokens) IsName
lone tokens = ended_some IsName (take_name tokens) (name_taken tokens)

-- ---- instructions

abbrev IsNaming : Instruction → Type 0
IsNaming i = IfSome (name_of i) IsName

last_named : (tokens : List Token) → IfSome (last_behind_comma take_name tokens) IsName
last_named tokens = ended_some IsName (option_and_then take_name (behind_mark COMMA tokens)) (then_some (λ taken. IsName taken.0) take_name (behind_mark COMMA tokens) name_taken)

literal_named : (cond : ℕ) (tokens : List Token) → IfSome (literal_of cond tokens) IsNaming
unfolding literal_of
literal_named cond tokens =
    then_some IsNaming (λ (taken : ℕ × List Token). option_map (instruction.Literal cond taken.0) (last_behind_comma take_name taken.1)) (take_register tokens)
    (λ taken. map_some IsNaming (instruction.Literal cond taken.0) (last_behind_comma take_name taken.1) (last_named taken.1))

branch_named : (cond : ℕ) (link : Bool) (tokens : List Token) → IfSome (branch_of cond link tokens) IsNaming
branch_named cond link tokens = map_some IsNaming (instruction.Branch cond link) (ended (take_name tokens)) (lone tokens)

named : (cond : ℕ) (head : Head) (tokens : List Token) → IfSome (named_of cond head tokens) IsNaming
unfolding named_of
named cond (heads.Branch link) tokens = branch_named cond link tokens
named cond (heads.Mem load byte) tokens = if_either IsNaming (load && not byte) (literal_of cond tokens) None (λ e. literal_named cond tokens) (λ e. tt)
named cond head tokens = tt

whole_named : (cond : ℕ) (draft : Draft) → IfOk (checked cond draft) IsNaming
whole_named cond draft = by_tests (is_allowed draft.op) draft.fits
  where
    by_tests : (allowed fits : Bool) → IfOk (if allowed then (if fits then Ok (instruction.Whole (record { cond = cond; op = draft.op })) else Err Range) else Err Operand) IsNaming
    by_tests true true = tt
    by_tests true false = tt
    by_tests false fits = tt

with_head : (cond : ℕ) (head : Head) (tokens : List Token) → IfOk (statement_with cond head tokens) IsNaming
unfolding statement_with
with_head cond head tokens =
    map_or_ok IsNaming IsNaming Ok (named_of cond head tokens) (option_map_or (checked cond) (draft_of head tokens) (Err Operand)) (named cond head tokens) (λ i h. h)
    (map_or_ok IsNaming (λ draft. Unit {0}) (checked cond) (draft_of head tokens) (Err Operand) (any_some (draft_of head tokens)) (λ draft h. whole_named cond draft) tt)

instruction_told : (text : List ℕ) → IfOk (instruction_in text) IsNaming
unfolding instruction_in instruction_of
instruction_told text =
    if_ok IsNaming (is_apart (behind_word text)) (instruction_of (front_word text) (operand_tokens (behind_word text))) (Err Mnemonic)
    (λ e. map_or_ok IsNaming (λ m. Unit {0}) (λ m. statement_with m.cond m.head (operand_tokens (behind_word text))) (mnemonic_of (front_word text)) (Err Mnemonic)
    (any_some (mnemonic_of (front_word text))) (λ m h. with_head m.cond m.head (operand_tokens (behind_word text))) tt)
    (λ e. tt)

-- ---- the names of directives

found_below : (p : ℕ → Bool) (from n : ℕ) → IfSome (find p (range_with_len from n)) (λ k. k < from + n)
found_below p from zero = tt
found_below p from (suc n) = by_test (p from) (found_below p (from + 1) n)
  where
    by_test : (b : Bool) → IfSome (find p (range_with_len (from + 1) n)) (λ k. k < from + 1 + n) → IfSome (cond b (Some from) (find p (range_with_len (from + 1) n))) (λ k. k < from + suc n)
    by_test true h = omega arith
    by_test false h = IfSome_then (find p (range_with_len (from + 1) n)) h (λ k l. omega arith)

named_section : (word : List ℕ) → IfSome (option_map directive.Section (numbered section_name SECTIONS word)) IsDirective
named_section word = map_some IsDirective directive.Section (numbered section_name SECTIONS word) (found_below (λ k. bytes_eq (section_name k) word) 0 4)

naming_told : (word : List ℕ) → IfSome (naming word) IsDirective
unfolding naming
naming_told word =
    if_either IsDirective (bytes_eq word (codes ".global")) (Some (directive.Bind false)) _ (λ e. tt) (λ e.
    if_either IsDirective (bytes_eq word (codes ".weak")) (Some (directive.Bind true)) _ (λ e. tt) (λ e.
    if_either IsDirective (bytes_eq word (codes ".hidden")) (Some (directive.Show STV_HIDDEN)) _ (λ e. omega arith) (λ e.
    if_either IsDirective (bytes_eq word (codes ".protected")) (Some (directive.Show STV_PROTECTED)) _ (λ e. omega arith) (λ e.
    if_some IsDirective (bytes_eq word (codes ".type")) directive.Kind (λ e. tt)))))

putting_told : (word : List ℕ) → IfSome (putting word) IsDirective
unfolding putting
putting_told word =
    if_either IsDirective (bytes_eq word (codes ".word")) (Some directive.Word) _ (λ e. tt) (λ e.
    if_either IsDirective (bytes_eq word (codes ".byte")) (Some directive.Byte) _ (λ e. tt) (λ e.
    if_either IsDirective (bytes_eq word (codes ".asciz")) (Some directive.Asciz) _ (λ e. tt) (λ e.
    if_either IsDirective (bytes_eq word (codes ".space")) (Some directive.Space) _ (λ e. tt) (λ e.
    if_some IsDirective (bytes_eq word (codes ".align")) directive.Align (λ e. tt)))))

directive_told : (word : List ℕ) → IfSome (directive_of word) IsDirective
unfolding directive_of
directive_told word =
    or_some IsDirective (option_map directive.Section (numbered section_name SECTIONS word)) (option_or (naming word) (putting word)) (named_section word)
    (or_some IsDirective (naming word) (putting word) (naming_told word) (putting_told word))

-- ---- operands

-- in `.bss` or elsewhere
abbrev Fits : Bool → Directive → Type 0
Fits in_bss directive = IsDirective directive × ((in_bss && is_filling directive) ≡ false)

outside : (in_bss : Bool) → (in_bss && true) ≡ false → in_bss ≡ false
outside true e = absurd cc
outside false e = refl

formed_ok : (P : Statement → Type 0) (o : Option Statement) → IfSome o P → IfOk (formed o) P
formed_ok P None h = tt
formed_ok P (Some statement) h = h

kind_small : (word : List ℕ) → IfSome (kind_of word) (λ kind. kind ≤ STT_FUNC)
unfolding kind_of
kind_small word =
    if_either (λ kind. kind ≤ STT_FUNC) (bytes_eq word (codes "func")) (Some STT_FUNC) _ (λ e. omega arith) (λ e.
    if_some (λ kind. kind ≤ STT_FUNC) (bytes_eq word (codes "object")) STT_OBJECT (λ e. omega arith))

kind_taken : (tokens : List Token) → IfSome (take_by kind_of tokens) (λ taken. taken.0 ≤ STT_FUNC)
kind_taken tokens =
    followed_some (λ taken. taken.0 ≤ STT_FUNC) (λ taken. Unit {0}) (take_word tokens) (λ word rest. option_map (λ x. (x, rest)) (kind_of word)) (any_some (take_word tokens))
    (λ taken h. map_some (λ (t : ℕ × List Token). t.0 ≤ STT_FUNC) (λ x. (x, taken.1)) (kind_of taken.0) (kind_small taken.0))

kind_told : (in_bss : Bool) (tokens : List Token) → IfSome (take_kind tokens) (λ taken. IsTold in_bss taken.0)
unfolding take_kind
kind_told in_bss tokens =
    followed_some (λ taken. IsTold in_bss taken.0) (λ taken. IsName taken.0) (take_name tokens)
    (λ name rest. followed (option_and_then (take_by kind_of) (behind_gap rest)) (λ kind last. Some (Kind name kind, last))) (name_taken tokens)
    (λ named is. followed_some (λ taken. IsTold in_bss taken.0) (λ taken. taken.0 ≤ STT_FUNC) (option_and_then (take_by kind_of) (behind_gap named.1)) (λ kind last. Some (Kind named.0 kind, last))
    (then_some (λ taken. taken.0 ≤ STT_FUNC) (take_by kind_of) (behind_gap named.1) kind_taken) (λ taken l. (is, l)))

-- a word with a name
added_told : (name : List ℕ) (tokens : List Token) → IsName name → IfSome (take_added name tokens) (λ taken. IsTold false taken.0)
unfolding take_added
added_told name tokens is =
    followed_some (λ taken. IsTold false taken.0) (λ taken. Unit {0}) (take_number tokens) (λ add rest. Some (WordOf name R_ARM_ABS32 add, rest)) (any_some (take_number tokens)) (λ taken h. (refl, is))

operator_told : (name : List ℕ) (tokens : List Token) → IsName name → IfSome (take_operator name tokens) (λ taken. IsTold false taken.0)
unfolding take_operator
operator_told name tokens is =
    followed_some (λ taken. IsTold false taken.0) (λ taken. Unit {0}) (take_by relocation_of tokens) (λ kind rest. option_map (λ last. (WordOf name kind 0, last)) (behind_mark 0x29 rest)) (any_some (take_by relocation_of tokens))
    (λ taken h. map_some (λ (t : Statement × List Token). IsTold false t.0) (λ last. (WordOf name taken.0 0, last)) (behind_mark 0x29 taken.1)
    (IfSome_then (behind_mark 0x29 taken.1) (any_some (behind_mark 0x29 taken.1)) (λ last h. (refl, is))))

behind_told : (name : List ℕ) (tokens : List Token) → IsName name → IfSome (take_behind_name name tokens) (λ taken. IsTold false taken.0)
unfolding take_behind_name
behind_told name tokens is =
    map_or_some (λ taken. IsTold false taken.0) (take_added name) (behind_mark 0x2b tokens) _ (λ rest. added_told name rest is)
    (map_or_some (λ taken. IsTold false taken.0) (take_operator name) (behind_mark 0x28 tokens) _ (λ rest. operator_told name rest is) (refl, is))

value_told : (tokens : List Token) → IfSome (take_value tokens) (λ taken. IsTold false taken.0)
unfolding take_value
value_told tokens =
    followed_some (λ taken. IsTold false taken.0) (λ taken. Unit {0}) (take_word tokens)
    (λ word rest. if is_name word then take_behind_name word rest else option_map (λ n. (Word n, rest)) (number_of word)) (any_some (take_word tokens))
    (λ taken h. if_either (λ t. IsTold false t.0) (is_name taken.0) (take_behind_name taken.0 taken.1) (option_map (λ n. (Word n, taken.1)) (number_of taken.0))
    (λ is. behind_told taken.0 taken.1 is)
    (λ e. map_some (λ (t : Statement × List Token). IsTold false t.0) (λ n. (Word n, taken.1)) (number_of taken.0) (IfSome_then (number_of taken.0) (any_some (number_of taken.0)) (λ n h. refl))))

among : (n : ℕ) (xs : List ℕ) → list_any (λ align. align == n) xs ≡ true → list_all is_section_align xs ≡ true → is_section_align n ≡ true
among n [] e all = absurd cc
among n (x ∷ xs) e all =
    elim (or_cases (x == n) (list_any (λ align. align == n) xs) e) [
      | inl is ↦ subst (λ k. is_section_align k ≡ true) (eqb-true x n is) (and_parts (is_section_align x) (list_all is_section_align xs) all).0
      | inr there ↦ among n xs there (and_parts (is_section_align x) (list_all is_section_align xs) all).1
    ]

align_told : (n : ℕ) → is_align n ≡ true → is_section_align n ≡ true
unfolding ones
align_told n e = among n ALIGNS e refl

operands_told : (in_bss : Bool) (d : Directive) (rest : List ℕ) → Fits in_bss d → IfOk (operands_of d rest) (IsTold in_bss)
unfolding operands_of
operands_told in_bss (directive.Section number) rest fits = if_ok (IsTold in_bss) (is_nothing (operand_tokens rest)) (Ok (Section number)) (Err Operand) (λ e. fits.0) (λ e. tt)
operands_told in_bss (directive.Bind weak) rest fits =
    formed_ok (IsTold in_bss) (option_map (λ name. Bind name weak) (lone_name (operand_tokens rest))) (map_some (IsTold in_bss) (λ name. Bind name weak) (lone_name (operand_tokens rest)) (lone (operand_tokens rest)))
operands_told in_bss (directive.Show visibility) rest fits =
    formed_ok (IsTold in_bss) (option_map (λ name. Show name visibility) (lone_name (operand_tokens rest)))
    (map_some (IsTold in_bss) (λ name. Show name visibility) (lone_name (operand_tokens rest)) (IfSome_then (lone_name (operand_tokens rest)) (lone (operand_tokens rest)) (λ name is. (is, fits.0))))
operands_told in_bss directive.Kind rest fits = formed_ok (IsTold in_bss) (ended (take_kind (operand_tokens rest))) (ended_some (IsTold in_bss) (take_kind (operand_tokens rest)) (kind_told in_bss (operand_tokens rest)))
operands_told in_bss directive.Word rest fits =
    formed_ok (IsTold in_bss) (ended (take_value (operand_tokens rest)))
    (rw (outside in_bss fits.1) (ended_some (IsTold false) (take_value (operand_tokens rest)) (value_told (operand_tokens rest))))
operands_told in_bss directive.Byte rest fits =
    map_or_ok (IsTold in_bss) (λ n. Unit {0}) byte_of (lone_number (operand_tokens rest)) (Err Operand) (any_some (lone_number (operand_tokens rest)))
    (λ n h. if_ok (IsTold in_bss) (nat_le n 255) (Ok (Byte n)) (Err Range) (λ e. tt) (λ e. tt)) tt
operands_told in_bss directive.Asciz rest fits =
    formed_ok (IsTold in_bss) (option_map Text (text_of rest)) (map_some (IsTold in_bss) Text (text_of rest) (any_some (text_of rest)))
operands_told in_bss directive.Space rest fits =
    formed_ok (IsTold in_bss) (option_map Space (lone_number (operand_tokens rest))) (map_some (IsTold in_bss) Space (lone_number (operand_tokens rest)) (any_some (lone_number (operand_tokens rest))))
operands_told in_bss directive.Align rest fits =
    map_or_ok (IsTold in_bss) (λ n. Unit {0}) align_of (lone_number (operand_tokens rest)) (Err Operand) (any_some (lone_number (operand_tokens rest)))
    (λ n h. if_ok (IsTold in_bss) (is_align n) (Ok (Align n)) (Err Range) (align_told n) (λ e. tt)) tt

-- ---- statements and lines

known_told : (in_bss : Bool) (rest : List ℕ) (d : Directive) → IsDirective d → IfOk (of_known in_bss rest d) (IsTold in_bss)
known_told in_bss rest d is =
    if_ok (IsTold in_bss) (in_bss && is_filling d) (Err wrong.Directive) (operands_of d rest) (λ e. tt) (λ e. operands_told in_bss d rest (is, e))

of_directive_told : (in_bss : Bool) (text : List ℕ) → IfOk (of_directive in_bss text) (IsTold in_bss)
unfolding of_directive
of_directive_told in_bss text =
    if_ok (IsTold in_bss) (is_apart (behind_word text)) (option_map_or (of_known in_bss (behind_word text)) (directive_of (front_word text)) (Err wrong.Directive)) (Err wrong.Directive)
    (λ e. map_or_ok (IsTold in_bss) IsDirective (of_known in_bss (behind_word text)) (directive_of (front_word text)) (Err wrong.Directive) (directive_told (front_word text)) (known_told in_bss (behind_word text)) tt)
    (λ e. tt)

of_instruction_told : (in_bss : Bool) (r : Result Instruction AsmKind) → IfOk r IsNaming → IfOk (of_instruction in_bss r) (IsTold in_bss)
of_instruction_told true (Ok i) h = tt
of_instruction_told false (Ok i) h = (refl, h)
of_instruction_told in_bss (Err kind) h = tt

statement_told : (in_bss : Bool) (text : List ℕ) → IfOk (statement_of in_bss text) (IsTold in_bss)
unfolding statement_of
statement_told in_bss text =
    if_ok (IsTold in_bss) (is_over text) (Ok Nothing) (if begins_with 0x2e text then of_directive in_bss text else of_instruction in_bss (instruction_in text)) (λ e. tt)
    (λ e. if_ok (IsTold in_bss) (begins_with 0x2e text) (of_directive in_bss text) (of_instruction in_bss (instruction_in text)) (λ f. of_directive_told in_bss text) (λ f. of_instruction_told in_bss (instruction_in text) (instruction_told text)))

labelled_told : (in_bss : Bool) (label : Option (List ℕ)) (r : Result Statement AsmKind) → IfSome label IsName → IfOk r (IsTold in_bss) → IfOk (labelled label r) (IsToldBy in_bss)
labelled_told in_bss label (Ok statement) is h = (is, h)
labelled_told in_bss label (Err kind) is h = tt

text_told : (in_bss : Bool) (text : List ℕ) → IfOk (said_in in_bss text) (IsToldBy in_bss)
unfolding said_in has_label
text_told in_bss text =
    if_ok (IsToldBy in_bss) (has_label text) (labelled (Some (front_word text)) (statement_of in_bss (behind_blanks (drop 1 (behind_word text))))) (labelled None (statement_of in_bss text))
    (λ e. labelled_told in_bss (Some (front_word text)) (statement_of in_bss (behind_blanks (drop 1 (behind_word text)))) (and_parts (is_name (front_word text)) (begins_with 0x3a (behind_word text)) e).0 (statement_told in_bss (behind_blanks (drop 1 (behind_word text)))))
    (λ e. labelled_told in_bss None (statement_of in_bss text) tt (statement_told in_bss text))

pub told : (in_bss : Bool) (line : List ℕ) → IfOk (said_of in_bss line) (IsToldBy in_bss)
unfolding said_of
told in_bss line = if_ok (IsToldBy in_bss) (nat_lt LINE_MAX (length line)) (Err wrong.LineLong) (said_in in_bss (behind_blanks line)) (λ e. tt) (λ e. text_told in_bss (behind_blanks line))
