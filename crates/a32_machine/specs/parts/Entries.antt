-- What the words of an entry of the procedure linkage table do: four that fetch a bound pair, and four that push the
-- entry's number and go to the resolver (Arm FDPIC ABI, "Function calls" and "Lazy binding").
use Rattle.std.specs.Prelude.{◌≡◌, ℕ, zero, suc, ◌+◌, ◌-◌, ◌%◌, ◌^◌, ◌<◌, ◌≤◌, true, Ok, length, get_or, set}
use Rattle.guest_mem.specs.Memory.{GuestMemory, is_watched}
use Rattle.guest_mem.specs.Accesses.{fetch_of, read32_of, write32_of}
use Rattle.a32_machine.specs.declared.cpu.Cpu.{Cpu}
use Rattle.a32_machine.specs.declared.cpu.StepEnd.{StepEnd}
use Rattle.a32_machine.specs.declared.cpu.StepEnd.TheVariants.{Next, Service, Stop}
use Rattle.fd_base.specs.Sums.{plus, minus}
use Rattle.a32_machine.specs.Registers.{pc_of}
use Rattle.a32_machine.specs.Stepped.{Stepped, went_on}
use Rattle.a32_machine.specs.Step.{step_of}

-- a step more, unless the machine has ended
abbrev pub step_after : StepEnd → Stepped → Stepped
step_after Next s = step_of s.cpu s.memory
step_after (Service n) s = s
step_after (Stop stop) s = s

unfoldable pub steps_from : ℕ → Stepped → Stepped
steps_from zero s = s
steps_from (suc n) s = steps_from n (step_after s.end_ s)

-- The cpu is at an entry's words, with the GOT in r9, and the slot at the entry's offset from the GOT holds the pair
-- of a function's address and its GOT.
pub record AtEntry (cpu : Cpu) (m : GuestMemory) (p got offset function function_got : ℕ) : Type 0 where
  pub registers : length cpu.r ≡ 16
  pub place : pc_of cpu ≡ p
  pub below : p + 20 < 2 ^ 32
  pub word_0 : fetch_of m p ≡ Ok 0xe59fc008  -- ldr r12, [pc, #8]
  pub word_1 : fetch_of m (p + 4) ≡ Ok 0xe08cc009  -- add r12, r12, r9
  pub word_2 : fetch_of m (p + 8) ≡ Ok 0xe59c9004  -- ldr r9, [r12, #4]
  pub word_3 : fetch_of m (p + 12) ≡ Ok 0xe59cf000  -- ldr pc, [r12]
  pub word_4 : read32_of m (p + 16) ≡ Ok offset
  pub got_register : get_or cpu.r 9 0 ≡ got
  pub slot : read32_of m (plus got offset) ≡ Ok function
  pub slot_got : read32_of m (plus (plus got offset) 4) ≡ Ok function_got
  pub aligned : function % 4 ≡ 0

-- Four steps lead to the function, with its GOT in r9 and the slot's address in r12, and all else as it was.
abbrev pub EntryArrives : Type 0
EntryArrives = (cpu : Cpu) (m : GuestMemory) (p got offset function function_got : ℕ) → AtEntry cpu m p got offset function function_got
    → steps_from 4 (went_on cpu m) ≡ went_on (record cpu { r = set (set (set cpu.r 12 (plus got offset)) 9 function_got) 15 function }) m

-- The cpu is at an entry's lazy place, before which stands the byte offset of its relocation, with the GOT in r9,
-- whose watched header has the resolver's address and the module's word; and there is room for a word below sp.
pub record AtLazyPlace (cpu : Cpu) (m pushed : GuestMemory) (z got entry resolver module_word : ℕ) : Type 0 where
  pub registers : length cpu.r ≡ 16
  pub place : pc_of cpu ≡ z
  pub above : 4 ≤ z
  pub below : z + 16 < 2 ^ 32
  pub got_register : get_or cpu.r 9 0 ≡ got
  pub got_below : got + 8 < 2 ^ 32
  pub watched : (i : ℕ) → i < 8 → is_watched m (got + i) ≡ true
  pub word_0 : fetch_of m z ≡ Ok 0xe51fc00c  -- ldr r12, [pc, #-12]
  pub word_1 : fetch_of m (z + 4) ≡ Ok 0xe92d1000  -- push {r12}
  pub word_2 : fetch_of m (z + 8) ≡ Ok 0xe599c004  -- ldr r12, [r9, #4]
  pub word_3 : fetch_of m (z + 12) ≡ Ok 0xe599f000  -- ldr pc, [r9]
  pub number : read32_of m (z - 4) ≡ Ok entry
  pub room : write32_of m (minus (get_or cpu.r 13 0) 4) entry ≡ Ok pushed
  pub header : read32_of m got ≡ Ok resolver
  pub header_module : read32_of m (got + 4) ≡ Ok module_word
  pub aligned : resolver % 4 ≡ 0

-- Four steps lead to the resolver, with the byte offset pushed and the module's word in r12, and all else as it was.
abbrev pub LazyPlaceArrives : Type 0
LazyPlaceArrives = (cpu : Cpu) (m pushed : GuestMemory) (z got entry resolver module_word : ℕ) → AtLazyPlace cpu m pushed z got entry resolver module_word
    → steps_from 4 (went_on cpu m) ≡ went_on (record cpu { r = set (set (set cpu.r 13 (minus (get_or cpu.r 13 0) 4)) 12 module_word) 15 resolver }) pushed
