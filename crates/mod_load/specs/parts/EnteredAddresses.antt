-- How the addresses of descriptors are entered into a pool.
use Rattle.std.specs.Prelude.{◌≡◌, ◌≢◌, ℕ, List, length, map, take, Some, None, All, AllPairs, Contains}
use Rattle.std.specs.FinMap.{get}
use Rattle.std.specs.Option.{option_or}
use Rattle.elf_model.specs.declared.func.Func.{Func}
use Rattle.func_desc.specs.Pool.{Pool, IsSlot, free_slots}
use Rattle.load_model.specs.Descriptors.{listed_addr}

-- Each function without an address has now the first that the list gives it, if any.
pub record AreEntered (entries : List (Func × ℕ)) (old new : Pool) : Type 0 where
  pub base' : new.base ≡ old.base
  pub slots' : new.slots ≡ old.slots
  pub addrs' : (f : Func) → get new.addrs f ≡ option_or (get old.addrs f) (listed_addr entries f)

-- no function has these addresses, no slot does, and no two functions share one
pub record CanBeAdopted (entries : List (Func × ℕ)) (pool : Pool) : Type 0 where
  pub unused : (f g : Func) (a : ℕ) → Contains entries (f, a) → get pool.addrs g ≢ Some a
  pub no_slot : (f : Func) (a : ℕ) → Contains entries (f, a) → ¬ IsSlot pool a
  pub distinct : (f g : Func) (a : ℕ) → Contains entries (f, a) → Contains entries (g, a) → f ≡ g

-- the free slots in order, for different functions without an address
pub record AreNext (entries : List (Func × ℕ)) (pool : Pool) : Type 0 where
  pub slots' : map (λ e. e.1) entries ≡ take (length entries) (free_slots pool)
  pub fresh : All (λ e. get pool.addrs e.0 ≡ None) entries
  pub once : AllPairs (λ d e. d.0 ≢ e.0) entries
