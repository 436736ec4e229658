-- Where statements stand, and the names of a text: what lines have made so far, and what one more makes of it.
use Rattle.std.specs.Prelude.{ℕ, ◌+◌, ◌-◌, ◌%◌, Bool, true, false, not, ◌&&◌, ◌==◌, nat_le, is_some, max, List, [], ◌∷◌, ◌++◌, length, get_or, slice_set, Option, Some, None, if◌then◌else◌}
use Rattle.a32_text.specs.Statement.{Statement as Instruction}
use Rattle.a32_text.specs.Statement as instruction
use Rattle.a32_text.specs.declared.refusal.AsmKind.{AsmKind}
use Rattle.a32_text.specs.declared.refusal.AsmKind.TheVariants.{Range, LabelTwice}
use Rattle.a32_asm.specs.declared.said.Place.{Place}
use Rattle.a32_asm.specs.declared.said.Facts.{Facts}
use Rattle.a32_asm.specs.declared.limits.TheConstants.{SECTION_MAX, NAMES_REFUSED}
use Rattle.a32_asm.specs.Known.{Names, place_of, with_name, facts_of, with_facts}
use Rattle.a32_asm.specs.Said.{Said, Statement, Nothing, Instr, Section, Bind, Show, Kind, Word, WordOf, Byte, Text, Space, Align}

-- what lines have made so far
pub record Layout : Type 0 where
  -- the section that is chosen
  pub here : ℕ
  -- of each section: its bytes, and its alignment
  pub sizes : List ℕ
  pub aligns : List ℕ
  -- the names of the text, and what lines said of each
  pub known : Names
  -- the labels by definition, as places in names
  pub labels : List ℕ

abbrev pub start : Layout
start = record { here = 0; sizes = 0 ∷ 0 ∷ 0 ∷ 0 ∷ []; aligns = 4 ∷ 4 ∷ 4 ∷ 4 ∷ []; known = record { names = []; facts = [] }; labels = [] }

-- ---- sizes

abbrev pub size_here : Layout → ℕ
size_here layout = get_or layout.sizes layout.here 0

-- the bytes that a statement puts at an offset
abbrev pub size_of : ℕ → Statement → ℕ
size_of offset Nothing = 0
size_of offset (Instr i) = 4
size_of offset (Section number) = 0
size_of offset (Bind name weak) = 0
size_of offset (Show name visibility) = 0
size_of offset (Kind name kind) = 0
size_of offset (Word n) = 4
size_of offset (WordOf name kind add) = 4
size_of offset (Byte n) = 1
size_of offset (Text bytes) = length bytes + 1
size_of offset (Space n) = n
size_of offset (Align n) = (n - offset % n) % n

-- words stand at multiples of 4
abbrev pub is_word : Statement → Bool
is_word (Instr i) = true
is_word (Word n) = true
is_word (WordOf name kind add) = true
is_word Nothing = false
is_word (Section number) = false
is_word (Bind name weak) = false
is_word (Show name visibility) = false
is_word (Kind name kind) = false
is_word (Byte n) = false
is_word (Text bytes) = false
is_word (Space n) = false
is_word (Align n) = false

-- ---- names

-- that of a branch or a load
abbrev pub name_of : Instruction → Option (List ℕ)
name_of (instruction.Whole i) = None
name_of (instruction.Branch cond link name) = Some name
name_of (instruction.Literal cond d name) = Some name

abbrev pub name_in : Statement → Option (List ℕ)
name_in (Instr i) = name_of i
name_in (Bind name weak) = Some name
name_in (Show name visibility) = Some name
name_in (Kind name kind) = Some name
name_in (WordOf name kind add) = Some name
name_in Nothing = None
name_in (Section number) = None
name_in (Word n) = None
name_in (Byte n) = None
name_in (Text bytes) = None
name_in (Space n) = None
name_in (Align n) = None

-- with one more name, where there is one
abbrev pub with_named : Option (List ℕ) → Names → Names
with_named None known = known
with_named (Some name) known = with_name name known

-- ---- one line

-- the facts of a name whose label stands at a place
abbrev pub labelled_at : Place → Facts → Facts
labelled_at place facts = record facts { label = Some place }

-- the label of a line stands before its statement
abbrev pub with_label : Option (List ℕ) → Layout → Layout
with_label None layout = layout
with_label (Some name) layout = record layout {
  known = with_facts name (labelled_at (record { section = layout.here; offset = size_here layout }) (facts_of name layout.known)) layout.known;
  labels = layout.labels ++ place_of name layout.known.names ∷ [];
}

-- what a statement tells of its name
abbrev pub with_told : Statement → Names → Names
with_told (Bind name weak) known = let facts = facts_of name known in with_facts name (record facts { weak = Some weak }) known
with_told (Show name visibility) known = let facts = facts_of name known in with_facts name (record facts { visibility = visibility }) known
with_told (Kind name kind) known = let facts = facts_of name known in with_facts name (record facts { kind = kind }) known
with_told Nothing known = known
with_told (Instr i) known = known
with_told (Section number) known = known
with_told (Word n) known = known
with_told (WordOf name kind add) known = known
with_told (Byte n) known = known
with_told (Text bytes) known = known
with_told (Space n) known = known
with_told (Align n) known = known

-- the section that is chosen behind a statement
abbrev pub chosen : Statement → ℕ → ℕ
chosen (Section number) here = number
chosen Nothing here = here
chosen (Instr i) here = here
chosen (Bind name weak) here = here
chosen (Show name visibility) here = here
chosen (Kind name kind) here = here
chosen (Word n) here = here
chosen (WordOf name kind add) here = here
chosen (Byte n) here = here
chosen (Text bytes) here = here
chosen (Space n) here = here
chosen (Align n) here = here

-- the alignment that a statement asks for
abbrev pub align_of : Statement → ℕ
align_of (Align n) = n
align_of Nothing = 1
align_of (Instr i) = 1
align_of (Section number) = 1
align_of (Bind name weak) = 1
align_of (Show name visibility) = 1
align_of (Kind name kind) = 1
align_of (Word n) = 1
align_of (WordOf name kind add) = 1
align_of (Byte n) = 1
align_of (Text bytes) = 1
align_of (Space n) = 1

-- the bytes of a statement stand behind those of its section, which is aligned as it asks
abbrev pub with_statement : Statement → Layout → Layout
with_statement statement layout = record {
  here = chosen statement layout.here;
  sizes = slice_set layout.sizes layout.here (size_here layout + size_of (size_here layout) statement);
  aligns = slice_set layout.aligns layout.here (max (align_of statement) (get_or layout.aligns layout.here 0));
  known = with_told statement layout.known;
  labels = layout.labels;
}

-- the names of a line: its label's, and then its statement's
abbrev pub with_names : Said → Names → Names
with_names said known = with_named (name_in said.statement) (with_named said.label known)

unfoldable pub with_said : Said → Layout → Layout
with_said said layout = with_statement said.statement (with_label said.label (record layout { known = with_names said layout.known }))

-- ---- the tests that look at other lines, in their order

-- whether the bytes of a statement may stand at an offset
unfoldable pub fits_at : ℕ → Statement → Bool
fits_at offset statement = not (is_word statement && not (offset % 4 == 0)) && nat_le (offset + size_of offset statement) SECTION_MAX

abbrev pub is_labelled : Option (List ℕ) → Names → Bool
is_labelled None known = false
is_labelled (Some name) known = is_some (facts_of name known).label

unfoldable pub place_refusal : Layout → Said → Option AsmKind
place_refusal layout said =
    if not (fits_at (size_here layout) said.statement) then Some Range
    else if nat_le NAMES_REFUSED (length (with_names said layout.known).names) then Some Range
    else if is_labelled said.label (with_names said layout.known) then Some LabelTwice
    else None
