-- Where the slots of a consistent loader's modules lead.
use Rattle.std.specs.Prelude.{◌≡◌, ℕ, false, Some, None}
use Rattle.elf_model.specs.declared.func.Func.{Func}
use Rattle.elf_model.specs.declared.object.Object.{Object}
use Rattle.elf_model.specs.declared.object.Rel.{Rel}
use Rattle.elf_model.specs.Places.{slot_of}
use Rattle.load_model.specs.declared.words.SlotPair.{SlotPair}
use Rattle.load_model.specs.Linkage.{linkage_of}
use Rattle.load_model.specs.Process.{object_at}
use Rattle.load_model.specs.Unbound.{is_unbound}
use Rattle.load_state.specs.Consistent.{IsConsistent}
use Rattle.load_state.specs.Loaded.{Loaded}
use Rattle.load_state.specs.Slots.{slot_function, slot_pair_of}
use Rattle.placed_code.specs.Places.{code_at}

-- slot k of live module m, which is bound, and its pair
pub record IsSlotOf (l : Loaded) (m k : ℕ) (o : Object) (r : Rel) (slot : SlotPair) : Type 0 where
  pub live : object_at l.modules.process m ≡ Some o
  pub is_slot : slot_of o k ≡ Some r
  pub bound : is_unbound l.modules.process m k ≡ false
  pub pair : slot_pair_of l.modules.process l.modules.maps m k ≡ Some slot

-- The code at the first word of a bound slot is the function to which the slot leads. Where it leads to none, no code is there.
pub record SlotsLeadToPlacedCode : Type 0 where
  pub function : (l : Loaded) (m k : ℕ) (o : Object) (r : Rel) (slot : SlotPair) (f : Func) → IsConsistent l → IsSlotOf l m k o r slot
      → slot_function (linkage_of l.modules.process) m o r ≡ Some f → code_at l.modules.process l.modules.maps slot.code ≡ Some f
  pub nothing : (l : Loaded) (m k : ℕ) (o : Object) (r : Rel) (slot : SlotPair) → IsConsistent l → IsSlotOf l m k o r slot
      → slot_function (linkage_of l.modules.process) m o r ≡ None → code_at l.modules.process l.modules.maps slot.code ≡ None
