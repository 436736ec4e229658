-- What holds of pools.
use Rattle.std.specs.Prelude.{◌≢◌, ℕ, ◌<◌, Some, Contains, AllPairs}
use Rattle.std.specs.FinMap.{get}
use Rattle.elf_model.specs.declared.func.Func.{Func}
use Rattle.func_desc.specs.Pool.{Pool, IsSlot, free_slots}

-- The free slots are slots that no function has, the lower ones first.
pub record FreeSlotsAreFree : Type 0 where
  pub slots : (pool : Pool) (a : ℕ) → Contains (free_slots pool) a → IsSlot pool a
  pub unused : (pool : Pool) (a : ℕ) (f : Func) → Contains (free_slots pool) a → get pool.addrs f ≢ Some a
  pub all : (pool : Pool) (a : ℕ) → IsSlot pool a → ((f : Func) → get pool.addrs f ≢ Some a) → Contains (free_slots pool) a
  pub rising : (pool : Pool) → AllPairs (λ a b. a < b) (free_slots pool)
