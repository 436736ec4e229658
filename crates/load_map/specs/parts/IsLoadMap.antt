-- Which entries make a load map, and what the entry that translates an address has.
use Rattle.std.specs.Prelude.{ℕ, ◌+◌, ◌^◌, ◌<◌, ◌≤◌, List, length, All}
use Rattle.load_map.specs.declared.entry.MapEntry.{MapEntry}

-- where it is placed, the address behind its last byte is an address
abbrev pub EndsBelow : MapEntry → Type 0
EndsBelow e = e.addr + e.memsz < 2 ^ 32

-- the address behind its last byte is an address, where it is linked and where it is placed
abbrev pub EndsInside : MapEntry → Type 0
EndsInside e = (e.vaddr + e.memsz < 2 ^ 32) × EndsBelow e

-- at most 8 entries, each of which ends inside
pub record IsLoadMap (entries : List MapEntry) : Type 0 where
  pub few : length entries ≤ 8
  pub ends : All EndsInside entries

-- the address is held by the entry or is its end, and the same place of the placed segment has an address
pub record Translates (v : ℕ) (e : MapEntry) : Type 0 where
  pub above : e.vaddr ≤ v
  pub below : v ≤ e.vaddr + e.memsz
  pub inside : EndsBelow e
