-- How a pool keeps its descriptors: entries of addresses by function, and the list of the free slots.
use Rattle.std.specs.Prelude.{◌≡◌, ℕ, ◌<◌, ◌≤◌, ◌==◌, not, Bool, false, List, [], ◌∷◌, length, map, filter, slice_index_or, Some, None}
use Rattle.std.specs.List.{list_any, range_with_len}
use Rattle.std.specs.FinMap.{get, find, from_entries}
use Rattle.elf_model.specs.declared.func.Func.{Func}
use Rattle.func_desc.specs.Functions.{func_cmp, AddrMap}
use Rattle.func_desc.specs.Pool.{slot_addr}

-- the address of each function in these entries
abbrev pub addrs_of : List (Func × ℕ) → AddrMap
addrs_of entries = from_entries entries

-- whether an entry has this address
abbrev pub is_entered : List (Func × ℕ) → ℕ → Bool
is_entered entries a = list_any (λ own. own == a) (map (λ entry. entry.1) entries)

-- whether a function is of another module than this one
abbrev pub is_of_another : ℕ → Func × ℕ → Bool
is_of_another number entry = not (entry.0.module == number)

-- the slots that no entry has
abbrev pub free_in : ℕ → ℕ → List (Func × ℕ) → List ℕ
free_in base slots entries = filter (λ a. not (is_entered entries a)) (map (slot_addr base) (range_with_len 0 slots))

-- just the slots that an entry has are marked
abbrev pub AreMarked : ℕ → List (Func × ℕ) → List Bool → Type 0
AreMarked base entries marks = (i : ℕ) → i < length marks → slice_index_or marks i false ≡ is_entered entries (slot_addr base i)

-- no two entries are of one function
abbrev pub AreOnce : List (Func × ℕ) → Type 0
AreOnce [] = Unit {0}
AreOnce (entry ∷ entries) = (find func_cmp entry.0 entries ≡ None) × AreOnce entries

pub record IsKept (base slots : ℕ) (entries : List (Func × ℕ)) (free : List ℕ) (spare : ℕ) : Type 0 where
  pub once : AreOnce entries
  -- no address is that of two functions
  pub distinct : (f g : Func) (a : ℕ) → get (addrs_of entries) f ≡ Some a → get (addrs_of entries) g ≡ Some a → f ≡ g
  pub listed : free ≡ free_in base slots entries
  -- each free slot can be entered
  pub room : length free ≤ spare
