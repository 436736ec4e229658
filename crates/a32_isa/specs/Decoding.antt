-- The instruction of a word, computed. The table alone says what is right: `decode` ensures that this is the
-- instruction whose row has the word. Constant words compute, which the layers above use.
use Rattle.std.specs.Prelude.{ℕ, ◌+◌, ◌*◌, ◌==◌, Option, Some, None, if◌then◌else◌}
use Rattle.a32_isa.specs.Fields.{field, flag}
use Rattle.a32_isa.specs.Allowed.{is_allowed}
use Rattle.a32_isa.specs.declared.instr.Instr.{Instr}
use Rattle.a32_isa.specs.declared.instr.Op.{Op}
use Rattle.a32_isa.specs.declared.instr.Op.TheVariants.{Data, Mul, Mla, Long, Clz, Movw, Movt, Nop, Mem, Half, Multi, Branch, Bx, Blx, Svc}
use Rattle.a32_isa.specs.declared.instr.Arg.{Arg}
use Rattle.a32_isa.specs.declared.instr.Arg.TheVariants.{Imm, ByImm, ByReg}
use Rattle.a32_isa.specs.declared.instr.MemOff.{MemOff}
use Rattle.a32_isa.specs.declared.instr.MemOff.TheVariants as mem
use Rattle.a32_isa.specs.declared.instr.HalfOff.{HalfOff}
use Rattle.a32_isa.specs.declared.instr.HalfOff.TheVariants as half

abbrev pub data_of : ℕ → Arg → Op
data_of w arg = Data (field w 21 4) (flag w 20) (field w 16 4) (field w 12 4) arg

abbrev pub mem_of : ℕ → MemOff → Op
mem_of w off = Mem (flag w 20) (flag w 22) (flag w 24) (flag w 23) (flag w 21) (field w 16 4) (field w 12 4) off

abbrev pub half_of : ℕ → ℕ → HalfOff → Op
half_of w kind off = Half kind (flag w 24) (flag w 23) (flag w 21) (field w 16 4) (field w 12 4) off

abbrev pub multi_of : ℕ → Op
multi_of w = Multi (flag w 20) (flag w 24) (flag w 23) (flag w 21) (field w 16 4) (field w 0 16)

-- an immediate of 16 bits, in two parts of the word
abbrev pub wide_immediate : ℕ → ℕ
wide_immediate w = 4096 * field w 16 4 + field w 0 12

-- an operation if a row takes it, or else another
abbrev pub or_else : Op → Option Op → Option Op
or_else op other = if is_allowed op then Some op else other

-- bits 7 to 4 are 1001
unfoldable pub multiply_of : ℕ → Option Op
multiply_of w =
    if field w 23 2 == 1 then Some (Long (field w 21 2) (flag w 20) (field w 16 4) (field w 12 4) (field w 8 4) (field w 0 4))
    else if field w 23 2 == 0 then (
    if field w 21 2 == 0 then (if field w 12 4 == 0 then Some (Mul (flag w 20) (field w 16 4) (field w 8 4) (field w 0 4)) else None)
    else if field w 21 2 == 1 then Some (Mla (flag w 20) (field w 16 4) (field w 12 4) (field w 8 4) (field w 0 4))
    else None)
    else None

unfoldable pub half_with_kind : ℕ → ℕ → Option Op
half_with_kind w kind =
    if flag w 22 then Some (half_of w kind (half.Imm (16 * field w 8 4 + field w 0 4)))
    else if field w 8 4 == 0 then Some (half_of w kind (half.Reg (field w 0 4)))
    else None

-- bits 7 and 4 are set, and S or H is
unfoldable pub half_class_of : ℕ → Option Op
half_class_of w = if flag w 20 then half_with_kind w (field w 5 2) else if field w 5 2 == 1 then half_with_kind w 0 else None

-- the miscellaneous instructions: comparisons without S
unfoldable pub misc_of : ℕ → Option Op
misc_of w =
    if flag w 20 then None
    else if field w 21 4 == 11 then (
    if field w 16 4 == 15 then (if field w 8 4 == 15 then (if field w 5 2 == 0 then Some (Clz (field w 12 4) (field w 0 4)) else None) else None) else None)
    else if field w 21 4 == 9 then (
    if field w 8 12 == 0xfff then (
    if field w 5 2 == 0 then Some (Bx (field w 0 4)) else if field w 5 2 == 1 then Some (Blx (field w 0 4)) else None)
    else None)
    else None

-- bits 27 to 25 are 000
unfoldable pub register_class_of : ℕ → Option Op
register_class_of w =
    if flag w 4 then (
    if flag w 7 then (if field w 5 2 == 0 then multiply_of w else half_class_of w)
    else or_else (data_of w (ByReg (field w 8 4) (field w 5 2) (field w 0 4))) (misc_of w))
    else Some (data_of w (ByImm (field w 7 5) (field w 5 2) (field w 0 4)))

-- bits 27 to 25 are 001, and it is no data operation
unfoldable pub wide_of : ℕ → Option Op
wide_of w =
    if flag w 20 then None
    else if field w 21 4 == 8 then Some (Movw (field w 12 4) (wide_immediate w))
    else if field w 21 4 == 10 then Some (Movt (field w 12 4) (wide_immediate w))
    else if field w 21 4 == 9 then (if field w 0 20 == 0xf000 then Some Nop else None)
    else None

-- bits 27 to 25 are 001
abbrev pub immediate_class_of : ℕ → Option Op
immediate_class_of w = or_else (data_of w (Imm (field w 8 4) (field w 0 8))) (wide_of w)

-- the operation whose fields a word has, by its bits 27 to 25
abbrev pub of_class : ℕ → ℕ → Option Op
of_class w class =
    if class == 0 then register_class_of w
    else if class == 1 then immediate_class_of w
    else if class == 2 then Some (mem_of w (mem.Imm (field w 0 12)))
    else if class == 3 then (if flag w 4 then None else Some (mem_of w (mem.Reg (field w 7 5) (field w 5 2) (field w 0 4))))
    else if class == 4 then (if flag w 22 then None else Some (multi_of w))
    else if class == 5 then Some (Branch (flag w 24) (field w 0 24))
    else if class == 7 then (if flag w 24 then Some (Svc (field w 0 24)) else None)
    else None

unfoldable pub candidate_of : ℕ → Option Op
candidate_of w = of_class w (field w 25 3)

abbrev pub with_condition : ℕ → Option Op → Option Instr
with_condition cond None = None
with_condition cond (Some op) = if is_allowed op then Some (record { cond = cond; op = op }) else None

unfoldable pub decode_of : ℕ → Option Instr
decode_of w = if field w 28 4 == 15 then None else with_condition (field w 28 4) (candidate_of w)
