-- The instruction table: each row gives, from bit 31 down, the fields of its words. Sections are those of the
-- Arm ARM (Armv7-A and Armv7-R, DDI 0406C).
use Rattle.std.specs.Prelude.{◌≡◌, ℕ, ◌/◌, ◌%◌, ◌<◌, List, [], ◌∷◌, IsTrue, if◌then◌else◌, ◌==◌}
use Rattle.a32_isa.specs.Fields.{Field, ◌of◌, bit, number_of, Fit}
use Rattle.a32_isa.specs.Allowed.{is_allowed}
use Rattle.a32_isa.specs.declared.instr.Instr.{Instr}
use Rattle.a32_isa.specs.declared.instr.Op.{Op}
use Rattle.a32_isa.specs.declared.instr.Op.TheVariants.{Data, Mul, Mla, Long, Clz, Movw, Movt, Nop, Mem, Half, Multi, Branch, Bx, Blx, Svc}
use Rattle.a32_isa.specs.declared.instr.Arg.{Arg}
use Rattle.a32_isa.specs.declared.instr.Arg.TheVariants.{Imm, ByImm, ByReg}
use Rattle.a32_isa.specs.declared.instr.MemOff.{MemOff}
use Rattle.a32_isa.specs.declared.instr.MemOff.TheVariants as mem
use Rattle.a32_isa.specs.declared.instr.HalfOff.{HalfOff}
use Rattle.a32_isa.specs.declared.instr.HalfOff.TheVariants as half

-- Bits 27 to 25 of a data operation: 001 with an immediate (A5.2.3), else 000.
abbrev pub arg_class : Arg → ℕ
arg_class (Imm rot imm) = 1
arg_class (ByImm imm kind m) = 0
arg_class (ByReg s2 kind m) = 0

-- Its last 12 bits: an immediate and half its rotation (A5.2.4), or a register shifted by a number (A5.2.1)
-- or by a register (A5.2.2).
abbrev pub arg_fields : Arg → List Field
arg_fields (Imm rot imm) = 4 of rot ∷ 8 of imm ∷ []
arg_fields (ByImm imm kind m) = 5 of imm ∷ 2 of kind ∷ 1 of 0 ∷ 4 of m ∷ []
arg_fields (ByReg s2 kind m) = 4 of s2 ∷ 1 of 0 ∷ 2 of kind ∷ 1 of 1 ∷ 4 of m ∷ []

-- Bits 27 to 25 of a load or store of a word or byte: 010 with an immediate, 011 with a register (A5.3).
abbrev pub mem_class : MemOff → ℕ
mem_class (mem.Imm off) = 2
mem_class (mem.Reg imm kind m) = 3

abbrev pub mem_off_fields : MemOff → List Field
mem_off_fields (mem.Imm off) = 12 of off ∷ []
mem_off_fields (mem.Reg imm kind m) = 5 of imm ∷ 2 of kind ∷ 1 of 0 ∷ 4 of m ∷ []

-- A load or store of a halfword or a signed byte (A5.2.8): whether it loads, the bits S and H, and its offset
-- in two halves. The kinds are 0 strh, 1 ldrh, 2 ldrsb, 3 ldrsh.
abbrev pub half_load : ℕ → ℕ
half_load kind = if kind == 0 then 0 else 1

abbrev pub half_code : ℕ → ℕ
half_code kind = if kind == 0 then 1 else kind

abbrev pub half_immediate : HalfOff → ℕ
half_immediate (half.Imm off) = 1
half_immediate (half.Reg m) = 0

abbrev pub half_high : HalfOff → ℕ
half_high (half.Imm off) = off / 16
half_high (half.Reg m) = 0

abbrev pub half_low : HalfOff → ℕ
half_low (half.Imm off) = off % 16
half_low (half.Reg m) = m

-- The two factors of a multiplication and the 1001 between them (A5.2.5). The manual's Rm is s2, and its Rn
-- is m.
abbrev pub factor_fields : ℕ → ℕ → List Field
factor_fields s2 m = 4 of s2 ∷ 1 of 1 ∷ 2 of 0 ∷ 1 of 1 ∷ 4 of m ∷ []

-- A register, and an immediate of 16 bits in two parts (A5.2).
abbrev pub wide_fields : ℕ → ℕ → List Field
wide_fields d imm16 = 4 of (imm16 / 4096) ∷ 4 of d ∷ 12 of (imm16 % 4096) ∷ []

-- Bits 27 to 0. A field that the manual draws whole is cut in two where other rows divide there.
abbrev pub op_fields : Op → List Field
-- A5.2.1, A5.2.2, A5.2.3: 00 I, operation, S, Rn, Rd, operand
op_fields (Data op s n d arg) = 3 of arg_class arg ∷ 4 of op ∷ 1 of bit s ∷ 4 of n ∷ 4 of d ∷ arg_fields arg
-- A5.2.5: 0000000 S Rd 0000 Rm 1001 Rn
op_fields (Mul s d s2 m) = 3 of 0 ∷ 2 of 0 ∷ 2 of 0 ∷ 1 of bit s ∷ 4 of d ∷ 4 of 0 ∷ factor_fields s2 m
-- A5.2.5: 0000001 S Rd Ra Rm 1001 Rn, where Ra is n
op_fields (Mla s d n s2 m) = 3 of 0 ∷ 2 of 0 ∷ 2 of 1 ∷ 1 of bit s ∷ 4 of d ∷ 4 of n ∷ factor_fields s2 m
-- A5.2.5: 00001 kind S RdHi RdLo Rm 1001 Rn; the kinds are 0 umull, 1 umlal, 2 smull, 3 smlal
op_fields (Long kind s hi lo s2 m) = 3 of 0 ∷ 2 of 1 ∷ 2 of kind ∷ 1 of bit s ∷ 4 of hi ∷ 4 of lo ∷ factor_fields s2 m
-- A5.2.12: 00010110 1111 Rd 1111 0001 Rm
op_fields (Clz d m) =
    3 of 0 ∷ 4 of 11 ∷ 1 of 0 ∷ 4 of 15 ∷ 4 of d ∷ 4 of 15 ∷ 1 of 0 ∷ 2 of 0 ∷ 1 of 1 ∷ 4 of m ∷ []
-- A5.2: 00110000 or 00110100, imm4, Rd, imm12
op_fields (Movw d imm16) = 3 of 1 ∷ 4 of 8 ∷ 1 of 0 ∷ wide_fields d imm16
op_fields (Movt d imm16) = 3 of 1 ∷ 4 of 10 ∷ 1 of 0 ∷ wide_fields d imm16
-- A5.2.11: 00110010 0000 1111 0000 00000000
op_fields Nop = 3 of 1 ∷ 4 of 9 ∷ 1 of 0 ∷ 20 of 0xf000 ∷ []
-- A5.3: 01 I P U B W L Rn Rt, offset
op_fields (Mem load byte p u w n d off) =
    3 of mem_class off ∷ 1 of bit p ∷ 1 of bit u ∷ 1 of bit byte ∷ 1 of bit w ∷ 1 of bit load ∷ 4 of n ∷ 4 of d
    ∷ mem_off_fields off
-- A5.2.8: 000 P U I W L Rn Rt, high half, 1 S H 1, low half
op_fields (Half kind p u w n d off) =
    3 of 0 ∷ 1 of bit p ∷ 1 of bit u ∷ 1 of half_immediate off ∷ 1 of bit w ∷ 1 of half_load kind ∷ 4 of n ∷ 4 of d
    ∷ 4 of half_high off ∷ 1 of 1 ∷ 2 of half_code kind ∷ 1 of 1 ∷ 4 of half_low off ∷ []
-- A5.5: 100 P U 0 W L Rn, registers
op_fields (Multi load p u w n list) =
    3 of 4 ∷ 1 of bit p ∷ 1 of bit u ∷ 1 of 0 ∷ 1 of bit w ∷ 1 of bit load ∷ 4 of n ∷ 16 of list ∷ []
-- A5.5: 101 L imm24
op_fields (Branch link imm24) = 3 of 5 ∷ 1 of bit link ∷ 24 of imm24 ∷ []
-- A5.2.12: 00010010 1111 1111 1111, 0001 for bx or 0011 for blx, Rm
op_fields (Bx m) = 3 of 0 ∷ 4 of 9 ∷ 1 of 0 ∷ 12 of 0xfff ∷ 1 of 0 ∷ 2 of 0 ∷ 1 of 1 ∷ 4 of m ∷ []
op_fields (Blx m) = 3 of 0 ∷ 4 of 9 ∷ 1 of 0 ∷ 12 of 0xfff ∷ 1 of 0 ∷ 2 of 1 ∷ 1 of 1 ∷ 4 of m ∷ []
-- A5.6: 1111 imm24
op_fields (Svc imm24) = 3 of 7 ∷ 1 of 1 ∷ 24 of imm24 ∷ []

-- bits 31 to 0: the condition (A8.3) in front
abbrev pub fields_of : Instr → List Field
fields_of i = 4 of i.cond ∷ op_fields i.op

abbrev pub word_of : Instr → ℕ
word_of i = number_of (fields_of i)

-- an instruction that a row has; the condition 1111 is no row's
pub record IsInstr (i : Instr) : Type 0 where
  pub cond : i.cond < 15
  pub allowed : IsTrue (is_allowed i.op)
  pub fit : Fit (fields_of i)

-- a row has the word, with the fields of the instruction
pub record IsInstruction (w : ℕ) (i : Instr) : Type 0 where
  pub instr : IsInstr i
  pub word : w ≡ word_of i
