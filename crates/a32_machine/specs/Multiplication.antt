-- Multiplications (Arm ARM, DDI 0406C, A4.4.3). With S they set N and Z, and keep C and V.
use Rattle.std.specs.Prelude.{ℕ, ◌+◌, ◌-◌, ◌*◌, ◌/◌, ◌%◌, ◌^◌, ◌*ℤ◌, Bool, nat_lt, ◌==◌, if◌then◌else◌}
use Rattle.std.specs.Int.{w32, w64, cast_signed, cast_unsigned}
use Rattle.guest_mem.specs.Memory.{GuestMemory}
use Rattle.a32_machine.specs.declared.cpu.Cpu.{Cpu}
use Rattle.a32_machine.specs.Bits.{bit_of}
use Rattle.a32_machine.specs.Registers.{reg, with_reg, moved_on}
use Rattle.a32_machine.specs.Stepped.{Stepped, went_on}

-- N and Z of a product of so many bits, where the instruction sets them
abbrev pub with_sign : Bool → ℕ → ℕ → Cpu → Cpu
with_sign s width product cpu = if s then record cpu { n = bit_of product (width - 1); z = product == 0 } else cpu

abbrev pub product_kept : Bool → ℕ → ℕ → Cpu → GuestMemory → Stepped
product_kept s d product cpu memory = went_on (with_reg (with_sign s 32 product (moved_on cpu)) d product) memory

-- MUL (A8.8.114): the low word of the product
unfoldable pub multiplied : Bool → ℕ → ℕ → ℕ → Cpu → GuestMemory → Stepped
multiplied s d s2 m cpu memory = product_kept s d ((reg cpu m * reg cpu s2) % 2 ^ 32) cpu memory

-- MLA (A8.8.100): and a register added
unfoldable pub multiplied_and_added : Bool → ℕ → ℕ → ℕ → ℕ → Cpu → GuestMemory → Stepped
multiplied_and_added s d n s2 m cpu memory = product_kept s d ((reg cpu m * reg cpu s2 + reg cpu n) % 2 ^ 32) cpu memory

-- The product of two words in 64 bits. The kinds are 0 UMULL (A8.8.257), 1 UMLAL (A8.8.256), 2 SMULL (A8.8.189),
-- 3 SMLAL (A8.8.178): the first two of the numbers, the others of the signed numbers.
abbrev pub long_product : ℕ → ℕ → ℕ → ℕ
long_product kind a b = if nat_lt kind 2 then a * b else cast_unsigned w64 (cast_signed w32 a *ℤ cast_signed w32 b)

-- kinds 1 and 3 add what the two registers hold
abbrev pub long_result : ℕ → ℕ → ℕ → ℕ → ℕ
long_result kind a b held = (long_product kind a b + (if kind % 2 == 1 then held else 0)) % 2 ^ 64

unfoldable pub multiplied_long : ℕ → Bool → ℕ → ℕ → ℕ → ℕ → Cpu → GuestMemory → Stepped
multiplied_long kind s hi lo s2 m cpu memory =
    let product = long_result kind (reg cpu m) (reg cpu s2) (2 ^ 32 * reg cpu hi + reg cpu lo) in
    went_on (with_reg (with_reg (with_sign s 64 product (moved_on cpu)) lo (product % 2 ^ 32)) hi (product / 2 ^ 32)) memory
