-- What holds after modules were taken out.
use Rattle.std.specs.Prelude.{◌≡◌, ℕ, false, Some}
use Rattle.std.specs.FinMap.{get}
use Rattle.elf_model.specs.declared.func.Func.{Func}
use Rattle.load_model.specs.declared.module.SymbolicProcess.{SymbolicProcess}
use Rattle.load_model.specs.Validity.{IsValid}
use Rattle.load_state.specs.Consistent.{IsConsistent}
use Rattle.load_state.specs.Loaded.{Loaded}
use Rattle.load_removal.specs.Going.{MayGo, ModuleSet, process_without}
use Rattle.load_removal.specs.TakenOut.{IsTakenOut}

-- the others are a process
abbrev pub OthersAreValid : Type 0
OthersAreValid = (p : SymbolicProcess) (gone : ModuleSet) → IsValid p → MayGo p gone → IsValid (process_without gone p)

-- a consistent loader stays so
abbrev pub RemovalsKeepConsistent : Type 0
RemovalsKeepConsistent = (l new : Loaded) (gone : ModuleSet) → IsConsistent l → MayGo l.modules.process gone → IsTakenOut l gone new → IsConsistent new

-- a function whose module stays keeps its descriptor's address, and no two functions share one
pub record KeepOthersAddresses (l : Loaded) (gone : ModuleSet) (new : Loaded) : Type 0 where
  pub kept : (f : Func) (a : ℕ) → gone f.module ≡ false → get l.modules.addrs f ≡ Some a → get new.modules.addrs f ≡ Some a
  pub distinct : (f g : Func) (a : ℕ) → get new.modules.addrs f ≡ Some a → get new.modules.addrs g ≡ Some a → f ≡ g

abbrev pub RemovalsKeepAddresses : Type 0
RemovalsKeepAddresses = (l new : Loaded) (gone : ModuleSet) → IsConsistent l → IsTakenOut l gone new → KeepOthersAddresses l gone new
