-- What each row of the table asks of its fields, beside their widths. Words that the Arm ARM (Armv7-A and
-- Armv7-R, DDI 0406C) calls unpredictable have no row, nor have forms that this subset leaves out.
use Rattle.std.specs.Prelude.{ℕ, Bool, true, not, ◌&&◌, ◌||◌, ◌==◌, nat_lt}
use Rattle.a32_isa.specs.Registers.{differs, is_general, is_comparison, is_move, is_listed}
use Rattle.a32_isa.specs.declared.instr.Op.{Op}
use Rattle.a32_isa.specs.declared.instr.Op.TheVariants.{Data, Mul, Mla, Long, Clz, Movw, Movt, Nop, Mem, Half, Multi, Branch, Bx, Blx, Svc}
use Rattle.a32_isa.specs.declared.instr.Arg.{Arg}
use Rattle.a32_isa.specs.declared.instr.Arg.TheVariants.{Imm, ByImm, ByReg}
use Rattle.a32_isa.specs.declared.instr.MemOff.{MemOff}
use Rattle.a32_isa.specs.declared.instr.MemOff.TheVariants as mem
use Rattle.a32_isa.specs.declared.instr.HalfOff.{HalfOff}
use Rattle.a32_isa.specs.declared.instr.HalfOff.TheVariants as half

-- A shift by a register takes no r15 at all (A5.2.2 and the instructions that it names).
abbrev pub is_arg_allowed : ℕ → ℕ → Arg → Bool
is_arg_allowed n d (Imm rot imm) = true
is_arg_allowed n d (ByImm imm kind m) = true
is_arg_allowed n d (ByReg s2 kind m) = is_general n && is_general d && is_general s2 && is_general m

-- Comparisons set the flags and have d = 0, moves have n = 0, and what sets the flags doesn't write r15.
abbrev pub is_data_allowed : ℕ → Bool → ℕ → ℕ → Bool
is_data_allowed op s n d =
    (not (is_comparison op) || (s && (d == 0))) && (not (is_move op) || (n == 0)) && not (s && (d == 15))

-- The base: after-indexing is written without W, and a base that is written back is neither r15 nor the
-- register that is loaded or stored.
abbrev pub is_base_allowed : Bool → Bool → ℕ → ℕ → Bool
is_base_allowed p w n d = (p || not w) && ((p && not w) || (is_general n && differs n d))

abbrev pub is_mem_off_allowed : MemOff → Bool
is_mem_off_allowed (mem.Imm off) = true
is_mem_off_allowed (mem.Reg imm kind m) = is_general m

abbrev pub is_half_off_allowed : HalfOff → Bool
is_half_off_allowed (half.Imm off) = true
is_half_off_allowed (half.Reg m) = is_general m

-- The list names a register, and not the base where that is written back; r15 is loaded but never stored.
abbrev pub is_multi_allowed : Bool → Bool → ℕ → ℕ → Bool
is_multi_allowed load w n list =
    differs list 0 && nat_lt n 15 && not (w && is_listed list n) && (load || not (is_listed list 15))

abbrev pub is_allowed : Op → Bool
is_allowed (Data op s n d arg) = is_data_allowed op s n d && is_arg_allowed n d arg
is_allowed (Mul s d s2 m) = is_general d && is_general s2 && is_general m
is_allowed (Mla s d n s2 m) = is_general d && is_general n && is_general s2 && is_general m
is_allowed (Long kind s hi lo s2 m) = is_general hi && is_general lo && is_general s2 && is_general m && differs hi lo
is_allowed (Clz d m) = is_general d && is_general m
is_allowed (Movw d imm16) = is_general d
is_allowed (Movt d imm16) = is_general d
is_allowed Nop = true
is_allowed (Mem load byte p u w n d off) =
    is_base_allowed p w n d && (is_general d || (load && not byte)) && is_mem_off_allowed off
is_allowed (Half kind p u w n d off) = nat_lt kind 4 && is_base_allowed p w n d && is_general d && is_half_off_allowed off
is_allowed (Multi load p u w n list) = is_multi_allowed load w n list
is_allowed (Branch link imm24) = true
is_allowed (Bx m) = is_general m
is_allowed (Blx m) = is_general m
is_allowed (Svc imm24) = true
