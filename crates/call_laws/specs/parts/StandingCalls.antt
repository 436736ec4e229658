-- The calls through the PLT of a live module: what stands in memory that they read (Arm FDPIC ABI, "Procedure Linkage
-- Table").
use Rattle.std.specs.Prelude.{◌≡◌, ℕ, ◌+◌, ◌^◌, ◌<◌, true, Some}
use Rattle.elf_model.specs.declared.object.Object.{Object}
use Rattle.guest_mem.specs.Memory.{GuestMemory, is_watched}
use Rattle.load_model.specs.declared.words.SlotPair.{SlotPair}
use Rattle.load_map.specs.Maps.{map_at}
use Rattle.load_map.specs.Translation.{placed}
use Rattle.load_model.specs.Process.{object_at}
use Rattle.load_state.specs.Consistent.{IsConsistent}
use Rattle.load_state.specs.Loaded.{Loaded}
use Rattle.load_map.specs.Maps.{map_at}
use Rattle.load_state.specs.Slots.{slot_pair_of}
use Rattle.plt_code.specs.Entries.{IsPltEntry, IsClear}
use Rattle.call_laws.specs.Calls.{Holds, bound_call, slot_of}

-- The call from an entry through a slot is held, and its entry leads to the slot. No store changes the entry.
pub record HoldsEntry (m : GuestMemory) (entry got : ℕ) (slot : SlotPair) : Type 0 where
  pub holds : Holds m (bound_call entry got slot)
  pub leads : slot_of (bound_call entry got slot) ≡ slot.addr
  pub slot_below : slot.addr + 8 < 2 ^ 32
  pub watched : (i : ℕ) → i < 20 → is_watched m (entry + i) ≡ true

-- Each clear entry of a live module is that of a call through what its slot holds, where the memory ends below 2^32.
pub record CallsAreHeld : Type 0 where
  pub slots : (l : Loaded) (m v k : ℕ) (o : Object) → object_at l.modules.process m ≡ Some o → IsPltEntry o v k
      → (slot : SlotPair) × (slot_pair_of l.modules.process l.modules.maps m k ≡ Some slot)
  pub held : (l : Loaded) (m v k : ℕ) (o : Object) (slot : SlotPair) → IsConsistent l → l.modules.plan.memory < 2 ^ 32 → object_at l.modules.process m ≡ Some o
      → IsPltEntry o v k → IsClear o v k → slot_pair_of l.modules.process l.modules.maps m k ≡ Some slot
      → HoldsEntry l.memory (placed (map_at l.modules.maps m) v) (placed (map_at l.modules.maps m) o.got) slot

-- r9 names the module of a call: two live modules with one placed GOT are one
abbrev pub GotsNameModules : Type 0
GotsNameModules =
    (l : Loaded) (m n : ℕ) (o q : Object) → IsConsistent l → object_at l.modules.process m ≡ Some o → object_at l.modules.process n ≡ Some q
    → placed (map_at l.modules.maps m) o.got ≡ placed (map_at l.modules.maps n) q.got → m ≡ n
