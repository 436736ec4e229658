-- Data operations, moves of immediates and counts of zeros (Arm ARM, DDI 0406C, A4.4.1).
use Rattle.std.specs.Prelude.{ℕ, ◌+◌, ◌*◌, ◌%◌, ◌^◌, Bool, true, false, bit_and, bit_or, bit_xor, ◌==◌, if◌then◌else◌}
use Rattle.std.specs.Int.{w32, leading_zeros}
use Rattle.guest_mem.specs.Memory.{GuestMemory}
use Rattle.a32_isa.specs.Registers.{is_comparison}
use Rattle.a32_isa.specs.declared.instr.Arg.{Arg}
use Rattle.a32_machine.specs.declared.arithmetic.Outcome.{Outcome}
use Rattle.a32_machine.specs.declared.shifter.Shifted.{Shifted}
use Rattle.a32_machine.specs.declared.cpu.Cpu.{Cpu}
use Rattle.a32_machine.specs.Bits.{bit_of}
use Rattle.a32_machine.specs.Registers.{reg, with_reg, moved_on}
use Rattle.a32_machine.specs.Shifter.{operand_of}
use Rattle.a32_machine.specs.Arithmetic.{added, inverted}
use Rattle.a32_machine.specs.Stepped.{Stepped, went_on, landed}

-- bit by bit: the carry is the shifter's, and the overflow stays
abbrev pub logical : Cpu → Shifted → ℕ → Outcome
logical cpu b value = record { value = value; carry = b.carry; overflow = cpu.v }

abbrev pub outcome_of : ℕ → Cpu → ℕ → Shifted → Outcome
outcome_of op cpu a b =
    if op == 0 then logical cpu b (bit_and a b.value)  -- AND
    else if op == 1 then logical cpu b (bit_xor a b.value)  -- EOR
    else if op == 2 then added a (inverted b.value) true  -- SUB
    else if op == 3 then added (inverted a) b.value true  -- RSB
    else if op == 4 then added a b.value false  -- ADD
    else if op == 5 then added a b.value cpu.c  -- ADC
    else if op == 6 then added a (inverted b.value) cpu.c  -- SBC
    else if op == 7 then added (inverted a) b.value cpu.c  -- RSC
    else if op == 8 then logical cpu b (bit_and a b.value)  -- TST
    else if op == 9 then logical cpu b (bit_xor a b.value)  -- TEQ
    else if op == 10 then added a (inverted b.value) true  -- CMP
    else if op == 11 then added a b.value false  -- CMN
    else if op == 12 then logical cpu b (bit_or a b.value)  -- ORR
    else if op == 13 then logical cpu b b.value  -- MOV
    else if op == 14 then logical cpu b (bit_and a (inverted b.value))  -- BIC
    else logical cpu b (inverted b.value)  -- MVN

-- the flags that a result sets, where the instruction says so
abbrev pub with_flags : Bool → Outcome → Cpu → Cpu
with_flags s o cpu = if s then record cpu { n = bit_of o.value 31; z = o.value == 0; c = o.carry; v = o.overflow } else cpu

-- a comparison gives its flags alone
abbrev pub computed : ℕ → Bool → ℕ → Outcome → Cpu → GuestMemory → Stepped
computed op s d o cpu memory =
    if is_comparison op then went_on (with_flags s o (moved_on cpu)) memory
    else landed cpu (with_flags s o (moved_on cpu)) memory d o.value

unfoldable pub data_processed : ℕ → Bool → ℕ → ℕ → Arg → Cpu → GuestMemory → Stepped
data_processed op s n d arg cpu memory = computed op s d (outcome_of op cpu (reg cpu n) (operand_of cpu arg)) cpu memory

-- CLZ (A8.8.33): the number of zeros above the highest one, and 32 of 0
abbrev pub zeros_counted : ℕ → ℕ → Cpu → GuestMemory → Stepped
zeros_counted d m cpu memory = went_on (with_reg (moved_on cpu) d (leading_zeros w32 (reg cpu m))) memory

-- MOV of 16 bits (A8.8.102, encoding A2), and MOVT (A8.8.106), which keeps the low half
abbrev pub wide_moved : ℕ → ℕ → Cpu → GuestMemory → Stepped
wide_moved d imm16 cpu memory = went_on (with_reg (moved_on cpu) d imm16) memory

abbrev pub top_moved : ℕ → ℕ → Cpu → GuestMemory → Stepped
top_moved d imm16 cpu memory = went_on (with_reg (moved_on cpu) d (imm16 * 2 ^ 16 + reg cpu d % 2 ^ 16)) memory
