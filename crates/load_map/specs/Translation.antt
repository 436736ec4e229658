-- From link addresses to placed addresses, by the load map of a module (FDPIC ABI, "Load maps").
use Rattle.std.specs.Prelude.{ℕ, ◌+◌, ◌-◌, ◌==◌, Bool, List, Option, option_map, unwrap_or}
use Rattle.std.specs.List.{find}
use Rattle.std.specs.Option.{option_or}
use Rattle.fd_base.specs.Ranges.{is_in}
use Rattle.load_map.specs.declared.entry.MapEntry.{MapEntry}

-- whether the entry's segment holds the link address
abbrev pub is_held_by : ℕ → MapEntry → Bool
is_held_by v entry = is_in entry.vaddr entry.memsz v

-- whether the entry's segment ends at the link address
abbrev pub is_end_of : ℕ → MapEntry → Bool
is_end_of v entry = v == entry.vaddr + entry.memsz

-- the placed address, as far from the placed segment's first byte as the link address is from the segment's
abbrev pub placed_by : ℕ → MapEntry → ℕ
placed_by v entry = v - entry.vaddr + entry.addr

-- The placed address of a link address: by the first entry that holds it, else by the first that ends at it,
-- else none. That an end has an address is this project's own rule.
abbrev pub address_of : List MapEntry → ℕ → Option ℕ
address_of map v = option_map (placed_by v) (option_or (find (is_held_by v) map) (find (is_end_of v) map))

-- the placed address of a link address that has one
abbrev pub placed : List MapEntry → ℕ → ℕ
placed map v = unwrap_or (address_of map v) 0
