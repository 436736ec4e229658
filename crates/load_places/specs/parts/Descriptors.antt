-- The descriptors that functions get. Each has two words at an address of its own (Arm FDPIC ABI, "Function
-- Descriptors").
use Rattle.std.specs.Prelude.{◌≡◌, ◌⊎◌, ℕ, ◌+◌, ◌≤◌, false, List, Contains}
use Rattle.load_map.specs.declared.entry.MapEntry.{MapEntry}
use Rattle.elf_model.specs.declared.func.Func.{Func}
use Rattle.func_desc.specs.Functions.{AddrMap}
use Rattle.guest_mem.specs.parts.Kept.{SameMap}
use Rattle.guest_mem.specs.Memory.{GuestMemory, byte_at}
use Rattle.load_model.specs.declared.module.SymbolicProcess.{SymbolicProcess}
use Rattle.load_model.specs.declared.plan.TheConstants.{DESCRIPTOR_SIZE}
use Rattle.load_model.specs.Image.{place_of, got_of}
use Rattle.load_model.specs.Layout.{HasPair}
use Rattle.fd_base.specs.Ranges.{is_in}
use Rattle.load_state.specs.Loaded.{placing_of}

-- two descriptors share no byte
abbrev pub DescriptorsApart : Func × ℕ → Func × ℕ → Type 0
DescriptorsApart d e = (d.1 + DESCRIPTOR_SIZE ≤ e.1) ⊎ (e.1 + DESCRIPTOR_SIZE ≤ d.1)

-- an address in no descriptor
abbrev pub IsOffDescriptors : List (Func × ℕ) → ℕ → Type 0
IsOffDescriptors given a = (f : Func) (at : ℕ) → Contains given (f, at) → is_in at DESCRIPTOR_SIZE a ≡ false

-- descriptors are put into memory: each has the entry point of its function and the GOT of its module, and all else is
-- as it was
pub record HasDescriptorsPut (process : SymbolicProcess) (maps : List (List MapEntry)) (given : List (Func × ℕ)) (old new : GuestMemory) : Type 0 where
  pub pairs : (addrs : AddrMap) (f : Func) (a : ℕ) → Contains given (f, a)
      → HasPair new a (place_of (placing_of process maps addrs) f) (got_of (placing_of process maps addrs) f.module)
  pub stays : (a : ℕ) → IsOffDescriptors given a → byte_at new a ≡ byte_at old a
  pub map : SameMap old new
