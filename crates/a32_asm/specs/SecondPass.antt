-- The second pass: the bytes and relocations of statements, where all labels are known.
use Rattle.std.specs.Prelude.{ℕ, ◌+◌, ◌-◌, ◌/◌, ◌%◌, ◌^◌, Bool, true, false, not, ◌&&◌, ◌==◌, nat_le, is_none, List, [], ◌∷◌, ◌++◌, length, get_or, slice_set, replicate, Option, Some, None, Result, Ok, Err, if◌then◌else◌}
use Rattle.byteorder.specs.Endian.{little_bytes}
use Rattle.elf_model.specs.declared.constants.TheConstants.{STT_FUNC, R_ARM_CALL, R_ARM_JUMP24}
use Rattle.a32_isa.specs.Table.{word_of}
use Rattle.a32_isa.specs.declared.instr.Op.TheVariants as op
use Rattle.a32_isa.specs.declared.instr.MemOff.TheVariants as mem
use Rattle.a32_text.specs.Statement.{Statement as Instruction}
use Rattle.a32_text.specs.Statement as instruction
use Rattle.a32_text.specs.declared.refusal.AsmKind.{AsmKind}
use Rattle.a32_text.specs.declared.refusal.AsmKind.TheVariants.{Range, NoLabel}
use Rattle.a32_asm.specs.declared.said.Place.{Place}
use Rattle.a32_asm.specs.declared.refusal.AsmRefusal.{AsmRefusal}
use Rattle.a32_asm.specs.declared.limits.TheConstants.{RELS_MAX}
use Rattle.a32_asm.specs.declared.section.TheConstants.{BSS}
use Rattle.a32_asm.specs.Said.{Said, Statement, Nothing, Instr, Section, Bind, Show, Kind, Word, WordOf, Byte, Text, Space, Align}
use Rattle.a32_asm.specs.Known.{Names, facts_of}
use Rattle.a32_asm.specs.Layout.{Layout, size_here, size_of, with_said}
use Rattle.a32_asm.specs.FirstPass.{one_more}

-- a relocation, by its name
pub record RelTo : Type 0 where
  pub site : ℕ
  pub kind : ℕ
  pub name : List ℕ

-- what a statement puts: bytes, and for some a relocation of this kind on a name
pub record Put : Type 0 where
  pub bytes : List ℕ
  pub rel : Option (ℕ × List ℕ)

abbrev pub put_bytes : List ℕ → Result Put AsmKind
put_bytes bytes = Ok (record { bytes = bytes; rel = None })

-- the offset of a label, where it stands in this section
abbrev pub label_here : ℕ → Option Place → Option ℕ
label_here section None = None
label_here section (Some place) = if place.section == section then Some place.offset else None

-- a label of this section that is neither global nor weak
unfoldable pub settled : Names → ℕ → List ℕ → Option ℕ
settled all section name = let facts = facts_of name all in if is_none facts.weak then label_here section facts.label else None

-- the field of a branch from an offset to another
unfoldable pub field_to : ℕ → ℕ → ℕ
field_to from to = if nat_le (from + 8) to then (to - (from + 8)) / 4 else 2 ^ 24 - (from + 8 - to) / 4

abbrev pub branch_word : ℕ → Bool → ℕ → ℕ
branch_word cond link imm24 = word_of (record { cond = cond; op = op.Branch link imm24 })

-- R_ARM_CALL of an unconditional bl, else R_ARM_JUMP24; the field leads to the branch itself
abbrev pub put_branch : ℕ → Bool → ℕ → List ℕ → Option ℕ → Result Put AsmKind
put_branch cond link offset name (Some to) = if to % 4 == 0 then put_bytes (little_bytes 4 (branch_word cond link (field_to offset to))) else Err Range
put_branch cond link offset name None =
    Ok (record { bytes = little_bytes 4 (branch_word cond link 0xfffffe); rel = Some (if link && (cond == 14) then R_ARM_CALL else R_ARM_JUMP24, name) })

-- a load from the address plus 8, up or down
abbrev pub load_word : ℕ → ℕ → Bool → ℕ → ℕ
load_word cond d up by = word_of (record { cond = cond; op = op.Mem true false true up false 15 d (mem.Imm by) })

-- by up to 4,095 bytes
abbrev pub put_near : ℕ → ℕ → Bool → ℕ → Result Put AsmKind
put_near cond d up by = if nat_le by 4095 then put_bytes (little_bytes 4 (load_word cond d up by)) else Err Range

-- a load of a word from a label
abbrev pub put_literal : ℕ → ℕ → ℕ → Option ℕ → Result Put AsmKind
put_literal cond d offset None = Err NoLabel
put_literal cond d offset (Some to) =
    if nat_le (offset + 8) to then put_near cond d true (to - (offset + 8)) else put_near cond d false (offset + 8 - to)

-- a function stands at a multiple of 4
abbrev pub put_kind : ℕ → Option Place → Result Put AsmKind
put_kind kind None = put_bytes []
put_kind kind (Some place) = if (kind == STT_FUNC) && not (place.offset % 4 == 0) then Err Range else put_bytes []

abbrev pub put_instruction : Names → ℕ → ℕ → Instruction → Result Put AsmKind
put_instruction all section offset (instruction.Whole i) = put_bytes (little_bytes 4 (word_of i))
put_instruction all section offset (instruction.Branch cond link name) = put_branch cond link offset name (settled all section name)
put_instruction all section offset (instruction.Literal cond d name) = put_literal cond d offset (label_here section (facts_of name all).label)

unfoldable pub put_of : Names → ℕ → ℕ → Statement → Result Put AsmKind
put_of all section offset (Instr i) = put_instruction all section offset i
put_of all section offset (Kind name kind) = put_kind kind (facts_of name all).label
put_of all section offset (Word n) = put_bytes (little_bytes 4 n)
put_of all section offset (WordOf name kind add) = Ok (record { bytes = little_bytes 4 add; rel = Some (kind, name) })
put_of all section offset (Byte n) = put_bytes (n ∷ [])
put_of all section offset (Text bytes) = put_bytes (bytes ++ 0 ∷ [])
put_of all section offset (Space n) = put_bytes (replicate n 0)
put_of all section offset (Align n) = put_bytes (replicate (size_of offset (Align n)) 0)
put_of all section offset Nothing = put_bytes []
put_of all section offset (Section number) = put_bytes []
put_of all section offset (Bind name weak) = put_bytes []
put_of all section offset (Show name visibility) = put_bytes []

-- the bytes and relocations of each section so far
pub record Contents : Type 0 where
  pub filled : List (List ℕ)
  pub rels : List (List RelTo)

abbrev pub nothing_yet : Contents
nothing_yet = record { filled = [] ∷ [] ∷ [] ∷ [] ∷ []; rels = [] ∷ [] ∷ [] ∷ [] ∷ [] }

abbrev pub with_bytes : ℕ → List ℕ → Contents → Contents
with_bytes section bytes contents = if section == BSS then contents else record contents { filled = slice_set contents.filled section (get_or contents.filled section [] ++ bytes) }

-- one relocation more, where the section has room for it
abbrev pub with_rel : ℕ → ℕ → Option (ℕ × List ℕ) → Contents → Result Contents AsmKind
with_rel section offset None contents = Ok contents
with_rel section offset (Some rel) contents =
    let earlier = get_or contents.rels section [] in
    if nat_le RELS_MAX (length earlier) then Err Range
    else Ok (record contents { rels = slice_set contents.rels section (earlier ++ record { site = offset; kind = rel.0; name = rel.1 } ∷ []) })

abbrev pub with_put : ℕ → ℕ → Contents → Result Put AsmKind → Result Contents AsmKind
with_put section offset contents (Err kind) = Err kind
with_put section offset contents (Ok put) = with_rel section offset put.rel (with_bytes section put.bytes contents)

-- the lines once more, from their places
abbrev pub second_pass : Names → ℕ → Layout → Contents → List Said → Result Contents AsmRefusal
second_pass all number layout contents [] = Ok contents
second_pass all number layout contents (said ∷ saids) =
    one_more number (with_put layout.here (size_here layout) contents (put_of all layout.here (size_here layout) said.statement))
    (λ next. second_pass all (number + 1) (with_said said layout) next saids)
