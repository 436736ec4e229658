-- Loads and stores of several registers (Arm ARM, DDI 0406C, A4.7).
use Rattle.std.specs.Prelude.{ℕ, ◌*◌, ◌%◌, Bool, List, [], ◌∷◌, length, map, set, Result, Ok, Err, ◌==◌, if◌then◌else◌}
use Rattle.std.specs.List.{filter, range_with_len}
use Rattle.guest_mem.specs.Memory.{GuestMemory}
use Rattle.guest_mem.specs.Accesses.{read_words_of, write_words_of}
use Rattle.guest_mem.specs.declared.kind.Access.{Access}
use Rattle.a32_isa.specs.Registers.{is_listed}
use Rattle.a32_machine.specs.declared.cpu.Cpu.{Cpu}
use Rattle.a32_machine.specs.declared.cpu.StepStop.TheVariants.{Unaligned}
use Rattle.fd_base.specs.Sums.{plus, minus}
use Rattle.a32_machine.specs.Registers.{pc_of, reg, with_reg, moved_on}
use Rattle.a32_machine.specs.Stepped.{Stepped, went_on, stopped, stop_of}
use Rattle.a32_machine.specs.Transfers.{moved_by, stored}

-- the registers of a list, rising
unfoldable pub registers_of : ℕ → List ℕ
registers_of list = filter (is_listed list) (range_with_len 0 16)

-- The lowest address of a transfer of so many registers: the words rise from the base up (U) or end there, with the
-- word at the base itself left out where P says so.
abbrev pub lowest_of : Bool → Bool → ℕ → ℕ → ℕ
lowest_of p u base count =
    if u then (if p then plus base 4 else base)
    else (if p then minus base (4 * count) else plus (minus base (4 * count)) 4)

-- registers that get one value each
abbrev pub with_regs : List ℕ → List ℕ → List ℕ → List ℕ
with_regs r [] values = r
with_regs r (k ∷ ks) [] = r
with_regs r (k ∷ ks) (v ∷ vs) = with_regs (set r k v) ks vs

-- r15, where it is loaded, has to be the address of an instruction; else it is one already
abbrev pub landed_all : Cpu → Cpu → GuestMemory → Stepped
landed_all before cpu memory = if pc_of cpu % 4 == 0 then went_on cpu memory else stopped before memory (Unaligned (pc_of cpu))

abbrev pub loaded_all : Cpu → Cpu → GuestMemory → List ℕ → Result (List ℕ) Access → Stepped
loaded_all before cpu memory registers (Err e) = stopped before memory (stop_of e)
loaded_all before cpu memory registers (Ok values) = landed_all before (record cpu { r = with_regs cpu.r registers values }) memory

-- with W the base is left behind the words, or below them
abbrev pub base_moved : Bool → Bool → ℕ → ℕ → Cpu → Cpu
base_moved u w n count cpu = if w then with_reg (moved_on cpu) n (moved_by u (reg cpu n) (4 * count)) else moved_on cpu

unfoldable pub transferred_all : Bool → Bool → Bool → Bool → ℕ → List ℕ → Cpu → GuestMemory → Stepped
transferred_all load p u w n registers cpu memory =
    if load then loaded_all cpu (base_moved u w n (length registers) cpu) memory registers (read_words_of memory (lowest_of p u (reg cpu n) (length registers)) (length registers))
    else stored cpu (base_moved u w n (length registers) cpu) memory (write_words_of memory (lowest_of p u (reg cpu n) (length registers)) (map (reg cpu) registers))
