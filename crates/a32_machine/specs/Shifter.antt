-- Shifts with their carry (Arm ARM, DDI 0406C, A8.4.3), and the second operand of data operations and addresses.
use Rattle.std.specs.Prelude.{ℕ, ◌+◌, ◌-◌, ◌*◌, ◌/◌, ◌%◌, ◌^◌, Bool, ◌==◌, if◌then◌else◌}
use Rattle.std.specs.Int.{w32, rotate_right}
use Rattle.a32_isa.specs.declared.instr.Arg.{Arg}
use Rattle.a32_isa.specs.declared.instr.Arg.TheVariants.{Imm, ByImm, ByReg}
use Rattle.a32_machine.specs.declared.cpu.Cpu.{Cpu}
use Rattle.a32_machine.specs.declared.shifter.Shifted.{Shifted}
use Rattle.a32_machine.specs.Bits.{bit_of, sign_extended}
use Rattle.a32_machine.specs.Registers.{reg}

-- LSL_C: the carry is the bit above the word
abbrev pub shifted_left : ℕ → ℕ → Shifted
shifted_left x by = record { value = (x * 2 ^ by) % 2 ^ 32; carry = bit_of (x * 2 ^ by) 32 }

-- LSR_C: the carry is the last bit that goes out
abbrev pub shifted_right : ℕ → ℕ → Shifted
shifted_right x by = record { value = x / 2 ^ by; carry = bit_of x (by - 1) }

-- ASR_C: the same of the word with its sign above it
abbrev pub sign_shifted_right : ℕ → ℕ → Shifted
sign_shifted_right x by = let wide = sign_extended 32 (32 + by) x in record { value = wide / 2 ^ by; carry = bit_of wide (by - 1) }

-- ROR_C: the carry is the highest bit of what comes out
abbrev pub rotated_right : ℕ → ℕ → Shifted
rotated_right x by = let turned = rotate_right w32 x by in record { value = turned; carry = bit_of turned 31 }

-- RRX_C: one place right, with the carry coming in at the top
abbrev pub rotated_with_carry : ℕ → Bool → Shifted
rotated_with_carry x carry = record { value = x / 2 + (if carry then 2 ^ 31 else 0); carry = bit_of x 0 }

-- Shift_C, by an amount that a register holds: the kinds are 0 LSL, 1 LSR, 2 ASR, 3 ROR
abbrev pub shifted_by : ℕ → ℕ → ℕ → Bool → Shifted
shifted_by kind x by carry =
    if by == 0 then record { value = x; carry = carry }
    else if kind == 0 then shifted_left x by
    else if kind == 1 then shifted_right x by
    else if kind == 2 then sign_shifted_right x by
    else rotated_right x by

-- DecodeImmShift: by a number in the instruction, of which 0 means 32 for LSR and ASR, and RRX for ROR
abbrev pub shifted_at : ℕ → ℕ → ℕ → Bool → Shifted
shifted_at kind x imm carry =
    if kind == 0 then shifted_by 0 x imm carry
    else if kind == 1 then shifted_by 1 x (if imm == 0 then 32 else imm) carry
    else if kind == 2 then shifted_by 2 x (if imm == 0 then 32 else imm) carry
    else if imm == 0 then rotated_with_carry x carry
    else shifted_by 3 x imm carry

-- the second operand of a data operation: ARMExpandImm_C (A5.2.4), or a register shifted (A8.4.1, A8.4.2)
abbrev pub operand_of : Cpu → Arg → Shifted
operand_of cpu (Imm rot imm) = shifted_by 3 imm (2 * rot) cpu.c
operand_of cpu (ByImm imm kind m) = shifted_at kind (reg cpu m) imm cpu.c
operand_of cpu (ByReg s2 kind m) = shifted_by kind (reg cpu m) (reg cpu s2 % 256) cpu.c
