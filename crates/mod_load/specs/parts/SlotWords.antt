-- The words of slots in memory.
use Rattle.std.specs.Prelude.{◌≡◌, ℕ, ◌+◌, ◌^◌, ◌<◌, ◌≤◌, List, length, Some, slice_index}
use Rattle.std.specs.Int.{w32, to_le_bytes}
use Rattle.load_map.specs.declared.entry.MapEntry.{MapEntry}
use Rattle.guest_mem.specs.Memory.{GuestMemory, byte_at}
use Rattle.load_model.specs.declared.module.SymbolicProcess.{SymbolicProcess}
use Rattle.load_model.specs.declared.words.SlotPair.{SlotPair}
use Rattle.load_state.specs.Slots.{slot_pair_of}

-- a word stands at an address, little-endian
abbrev pub HasWordAt : GuestMemory → ℕ → ℕ → Type 0
HasWordAt memory at w = (i : ℕ) → i < 4 → byte_at memory (at + i) ≡ slice_index (to_le_bytes w32 w) i

-- a slot's two words stand in it
pub record IsFilled (memory : GuestMemory) (s : SlotPair) : Type 0 where
  pub inside : s.addr + 8 ≤ length memory.bytes
  pub code' : HasWordAt memory s.addr s.code
  pub got' : HasWordAt memory (s.addr + 4) s.got
  pub code_small : s.code < 2 ^ 32
  pub got_small : s.got < 2 ^ 32

-- each slot of a live module is filled
abbrev pub HasSlots : SymbolicProcess → List (List MapEntry) → GuestMemory → Type 0
HasSlots p maps memory = (m k : ℕ) (s : SlotPair) → slot_pair_of p maps m k ≡ Some s → IsFilled memory s
