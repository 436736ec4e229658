-- What is known of what was read, beside its value.
use Rattle.std.specs.Prelude.{◌≡◌, ◌<◌, ◌≤◌, true, List, ℕ, IfSome}
use Rattle.elf_model.specs.declared.constants.TheConstants.{STV_PROTECTED, STT_FUNC}
use Rattle.a32_text.specs.Statement.{IsStatement as IsInstruction}
use Rattle.a32_text.specs.Word.{is_name}
use Rattle.a32_asm.specs.declared.directive.Directive.{Directive}
use Rattle.a32_asm.specs.declared.directive.Directive.TheVariants as directive
use Rattle.a32_asm.specs.declared.section.TheConstants.{SECTIONS}
use Rattle.a32_asm.specs.declared.limits.TheConstants.{SECTION_MAX}
use Rattle.a32_asm.specs.Known.{Names, facts_of}
use Rattle.a32_asm.specs.Said.{Said, Statement, Nothing, Instr, Section, Bind, Show, Kind, Word, WordOf, Byte, Text, Space, Align}

abbrev pub IsDirective : Directive → Type 0
IsDirective (directive.Section number) = number < SECTIONS
IsDirective (directive.Bind weak) = Unit {0}
IsDirective (directive.Show visibility) = visibility ≤ STV_PROTECTED
IsDirective directive.Kind = Unit {0}
IsDirective directive.Word = Unit {0}
IsDirective directive.Byte = Unit {0}
IsDirective directive.Asciz = Unit {0}
IsDirective directive.Space = Unit {0}
IsDirective directive.Align = Unit {0}

-- names are names, and numbers have room
abbrev pub IsStatement : Statement → Type 0
IsStatement Nothing = Unit {0}
IsStatement (Instr i) = IsInstruction i
IsStatement (Section number) = number < SECTIONS
IsStatement (Bind name weak) = is_name name ≡ true
IsStatement (Show name visibility) = (is_name name ≡ true) × (visibility ≤ STV_PROTECTED)
IsStatement (Kind name kind) = (is_name name ≡ true) × (kind ≤ STT_FUNC)
IsStatement (Word n) = Unit {0}
IsStatement (WordOf name kind add) = is_name name ≡ true
IsStatement (Byte n) = Unit {0}
IsStatement (Text bytes) = Unit {0}
IsStatement (Space n) = Unit {0}
IsStatement (Align n) = (0 < n) × (n ≤ 4096)

abbrev pub IsSaid : Said → Type 0
IsSaid said = IfSome said.label (λ name. is_name name ≡ true) × IsStatement said.statement

-- labels stand in their sections
abbrev pub AreInside : Names → Type 0
AreInside known = (name : List ℕ) → IfSome (facts_of name known).label (λ place. place.offset ≤ SECTION_MAX)
