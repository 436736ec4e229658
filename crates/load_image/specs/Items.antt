-- The segments of a module as items to be placed, and its load map where they are.
use Rattle.std.specs.Prelude.{ℕ, List, [], ◌∷◌, Option, Some, None}
use Rattle.load_map.specs.declared.entry.MapEntry.{MapEntry}
use Rattle.elf_model.specs.declared.object.Segment.{Segment}
use Rattle.placement.specs.declared.item.Item.{Item}

abbrev pub item_of : ℕ → Segment → Option ℕ → Item
item_of owner s at = record { owner = owner; vaddr = s.vaddr; memsz = s.memsz; align = s.align; at = at }

-- The segments take the listed addresses in order. Those without one have none, and further addresses are ignored.
abbrev pub items_of : ℕ → List Segment → List ℕ → List Item
items_of owner [] listed = []
items_of owner (s ∷ ss) [] = item_of owner s None ∷ items_of owner ss []
items_of owner (s ∷ ss) (at ∷ listed) = item_of owner s (Some at) ∷ items_of owner ss listed

-- where the segments lie
abbrev pub load_map_of : List Segment → List ℕ → List MapEntry
load_map_of [] addrs = []
load_map_of (s ∷ ss) [] = []
load_map_of (s ∷ ss) (addr ∷ addrs) = record { addr = addr; vaddr = s.vaddr; memsz = s.memsz } ∷ load_map_of ss addrs
