-- The descriptors of functions (Arm FDPIC ABI, "Function Descriptors"): each function has one address at which its
-- descriptor stands, which tells functions apart. Which address it is is this loader's own choice.
use Rattle.std.specs.Prelude.{◌≡◌, ℕ, ◌+◌, ◌*◌, ◌<◌, not, List, filter, map, slice_get, Option, refl}
use Rattle.std.specs.Option.{option_or}
use Rattle.std.specs.List.{range_with_len}
use Rattle.std.specs.Coded.{Coded, code_by, coded×, coded_ℕ}
use Rattle.std.specs.FinMap.{get}
use Rattle.elf_model.specs.declared.func.Func.{Func}
use Rattle.func_desc.specs.Functions.{AddrMap, addr_map_code, has_addr}

pub record Pool : Type 0 where
  -- the address of the first slot, and how many there are
  pub base : ℕ
  pub slots : ℕ
  -- the address of each function
  pub addrs : AddrMap
  -- how many adoptions take no memory
  pub room : ℕ

abbrev pub pool_code : Coded Pool
pool_code =
    code_by ((ℕ × ℕ) × (AddrMap × ℕ)) (coded× (coded× coded_ℕ coded_ℕ) (coded× addr_map_code coded_ℕ))
    (λ p. ((p.base, p.slots), (p.addrs, p.room)))
    (λ t. record { base = t.0.0; slots = t.0.1; addrs = t.1.0; room = t.1.1 })
    (λ _. refl)

-- where slot i is: a descriptor has two words
abbrev pub slot_addr : ℕ → ℕ → ℕ
slot_addr base i = base + 8 * i

-- an address of a slot
abbrev pub IsSlot : Pool → ℕ → Type 0
IsSlot pool a = (i : ℕ) × (i < pool.slots) × (a ≡ slot_addr pool.base i)

-- the addresses of the slots that no function has, the lowest first
abbrev pub free_slots : Pool → List ℕ
free_slots pool = filter (λ a. not (has_addr pool.addrs a)) (map (slot_addr pool.base) (range_with_len 0 pool.slots))

-- a function's address: the one that it has, or else the lowest free slot
abbrev pub address_for : Pool → Func → Option ℕ
address_for pool f = option_or (get pool.addrs f) (slice_get (free_slots pool) 0)
