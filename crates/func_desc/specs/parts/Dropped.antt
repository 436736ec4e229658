-- Pools without the functions of a module.
use Rattle.std.specs.Prelude.{◌≡◌, ◌≢◌, ℕ, None}
use Rattle.std.specs.FinMap.{get}
use Rattle.elf_model.specs.declared.func.Func.{Func}
use Rattle.func_desc.specs.Functions.{AddrMap}

-- no function of the module has an address, and each of another module has the one that it had
pub record AreDropped (number : ℕ) (old new : AddrMap) : Type 0 where
  pub gone : (f : Func) → f.module ≡ number → get new f ≡ None
  pub others : (f : Func) → f.module ≢ number → get new f ≡ get old f
