-- A call through an entry of the procedure linkage table whose slot is bound (Arm FDPIC ABI, "Procedure Linkage Table"
-- and "Function calls").
use Rattle.std.specs.Prelude.{◌≡◌, ℕ, zero, suc, ◌+◌, ◌%◌, ◌^◌, ◌<◌, true, Some, Ok, get_or, length, option_map, set}
use Rattle.guest_mem.specs.Memory.{GuestMemory, is_watched}
use Rattle.guest_mem.specs.Accesses.{fetch_of, read32_of}
use Rattle.a32_machine.specs.declared.cpu.Cpu.{Cpu}
use Rattle.fd_base.specs.Sums.{plus, minus}
use Rattle.a32_machine.specs.Registers.{pc_of}
use Rattle.load_model.specs.declared.words.SlotPair.{SlotPair}
use Rattle.run_model.specs.State.{State, thread_at}

-- the entry's address, the GOT of the calling module, the slot's offset from it, and the pair in the slot: the function
-- and the GOT of its module
pub record BoundCall : Type 0 where
  pub entry : ℕ
  pub got : ℕ
  pub offset : ℕ
  pub function : ℕ
  pub function_got : ℕ

-- the call from an entry through a slot
abbrev pub bound_call : ℕ → ℕ → SlotPair → BoundCall
bound_call entry got slot = record { entry = entry; got = got; offset = minus slot.addr got; function = slot.code; function_got = slot.got }

abbrev pub slot_of : BoundCall → ℕ
slot_of c = plus c.got c.offset

-- a word that can be read and that no store changes
pub record Stays (m : GuestMemory) (a v : ℕ) : Type 0 where
  pub value : read32_of m a ≡ Ok v
  pub watched : (i : ℕ) → i < 4 → is_watched m (a + i) ≡ true

-- the words of the entry, and the pair in the slot
pub record Holds (m : GuestMemory) (c : BoundCall) : Type 0 where
  pub below : c.entry + 20 < 2 ^ 32
  pub word_0 : fetch_of m c.entry ≡ Ok 0xe59fc008  -- ldr r12, [pc, #8]
  pub word_1 : fetch_of m (c.entry + 4) ≡ Ok 0xe08cc009  -- add r12, r12, r9
  pub word_2 : fetch_of m (c.entry + 8) ≡ Ok 0xe59c9004  -- ldr r9, [r12, #4]
  pub word_3 : fetch_of m (c.entry + 12) ≡ Ok 0xe59cf000  -- ldr pc, [r12]
  pub word_4 : Stays m (c.entry + 16) c.offset
  pub slot : Stays m (slot_of c) c.function
  pub slot_got : Stays m (plus (slot_of c) 4) c.function_got
  pub aligned : c.function % 4 ≡ 0

-- the cpu is at the entry, with the GOT in r9
pub record Begins (cpu : Cpu) (c : BoundCall) : Type 0 where
  pub registers : length cpu.r ≡ 16
  pub place : pc_of cpu ≡ c.entry
  pub got : get_or cpu.r 9 0 ≡ c.got

-- a cpu that has these three registers, and all else as another has it
abbrev pub standing : Cpu → ℕ → ℕ → ℕ → Cpu
standing begin pc r12 r9 = record begin { r = set (set (set begin.r 12 r12) 9 r9) 15 pc }

-- at the function, with its GOT in r9 and the slot's address in r12
abbrev pub arrived : Cpu → BoundCall → Cpu
arrived begin c = standing begin c.function (slot_of c) c.function_got

-- the cpu after each step of the call
abbrev pub cpu_after : Cpu → BoundCall → ℕ → Cpu
cpu_after begin c zero = begin
cpu_after begin c (suc zero) = standing begin (c.entry + 4) c.offset c.got
cpu_after begin c (suc (suc zero)) = standing begin (c.entry + 8) (slot_of c) c.got
cpu_after begin c (suc (suc (suc zero))) = standing begin (c.entry + 12) (slot_of c) c.function_got
cpu_after begin c (suc (suc (suc (suc n)))) = arrived begin c

-- the thread lives and has this cpu
abbrev pub HasCpu : State → ℕ → Cpu → Type 0
HasCpu s t cpu = option_map (λ thread. thread.cpu) (thread_at s.threads t) ≡ Some cpu
