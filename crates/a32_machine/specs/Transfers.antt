-- Loads and stores of one register (Arm ARM, DDI 0406C, A4.6, A8.5).
use Rattle.std.specs.Prelude.{ℕ, ◌*◌, Bool, not, ◌&&◌, Result, Ok, Err, if◌then◌else◌}
use Rattle.byteorder.specs.Endian.{little_bytes}
use Rattle.guest_mem.specs.Memory.{GuestMemory}
use Rattle.guest_mem.specs.Accesses.{read_of, write_of}
use Rattle.guest_mem.specs.declared.kind.Access.{Access}
use Rattle.a32_isa.specs.declared.instr.MemOff.{MemOff}
use Rattle.a32_isa.specs.declared.instr.MemOff.TheVariants as mem
use Rattle.a32_isa.specs.declared.instr.HalfOff.{HalfOff}
use Rattle.a32_isa.specs.declared.instr.HalfOff.TheVariants as half
use Rattle.a32_machine.specs.declared.cpu.Cpu.{Cpu}
use Rattle.a32_machine.specs.declared.transfer.Size.{Size}
use Rattle.a32_machine.specs.declared.transfer.Size.TheVariants.{Byte, Half, Word}
use Rattle.fd_base.specs.Sums.{plus, minus}
use Rattle.a32_machine.specs.Bits.{sign_extended}
use Rattle.a32_machine.specs.Registers.{reg, with_reg, moved_on}
use Rattle.a32_machine.specs.Shifter.{shifted_at}
use Rattle.a32_machine.specs.Stepped.{Stepped, went_on, stopped, stop_of, landed}

-- how many bytes are transferred
abbrev pub width_of : Size → ℕ
width_of Byte = 1
width_of Half = 2
width_of Word = 4

-- a number of some bytes with zeros or copies of its sign above
abbrev pub extend : Bool → Size → ℕ → ℕ
extend signed size v = if signed then sign_extended (8 * width_of size) 32 v else v

abbrev pub extended : Bool → Size → Result ℕ Access → Result ℕ Access
extended signed size (Err e) = Err e
extended signed size (Ok v) = Ok (extend signed size v)

abbrev pub load_of : Bool → Size → GuestMemory → ℕ → Result ℕ Access
load_of signed size m a = extended signed size (read_of (width_of size) m a)

-- the low bytes of a word
abbrev pub store_of : Size → GuestMemory → ℕ → ℕ → Result GuestMemory Access
store_of size m a v = write_of (width_of size) m a (little_bytes (width_of size) v)

-- ---- addresses

-- a register moved up or down by an offset
abbrev pub moved_by : Bool → ℕ → ℕ → ℕ
moved_by u base offset = if u then plus base offset else minus base offset

-- of a word or byte the offset is a number or a shifted register, and of others a number or a register
abbrev pub mem_offset : Cpu → MemOff → ℕ
mem_offset cpu (mem.Imm offset) = offset
mem_offset cpu (mem.Reg imm kind m) = (shifted_at kind (reg cpu m) imm cpu.c).value

abbrev pub half_offset : Cpu → HalfOff → ℕ
half_offset cpu (half.Imm offset) = offset
half_offset cpu (half.Reg m) = reg cpu m

-- with P the moved base is the address, and else the base itself
abbrev pub address_of : Bool → ℕ → ℕ → ℕ
address_of p base moved = if p then moved else base

-- without P, or with W, the base is left moved
abbrev pub written_back : Bool → Bool → ℕ → ℕ → Cpu → Cpu
written_back p w n moved cpu = if p && not w then cpu else with_reg cpu n moved

-- ---- the transfer

abbrev pub loaded : Cpu → Cpu → GuestMemory → ℕ → Result ℕ Access → Stepped
loaded before cpu memory d (Err e) = stopped before memory (stop_of e)
loaded before cpu memory d (Ok v) = landed before cpu memory d v

abbrev pub stored : Cpu → Cpu → GuestMemory → Result GuestMemory Access → Stepped
stored before cpu memory (Err e) = stopped before memory (stop_of e)
stored before cpu memory (Ok changed) = went_on cpu changed

unfoldable pub transferred : Bool → Bool → Size → Bool → Bool → ℕ → ℕ → ℕ → Cpu → GuestMemory → Stepped
transferred load signed size p w n d moved cpu memory =
    if load then loaded cpu (written_back p w n moved (moved_on cpu)) memory d (load_of signed size memory (address_of p (reg cpu n) moved))
    else stored cpu (written_back p w n moved (moved_on cpu)) memory (store_of size memory (address_of p (reg cpu n) moved) (reg cpu d))
