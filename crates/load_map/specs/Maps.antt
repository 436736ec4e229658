-- Load maps by the numbers of their modules.
use Rattle.std.specs.Prelude.{ℕ, List, [], slice_index_or}
use Rattle.load_map.specs.declared.entry.MapEntry.{MapEntry}

-- a number past the last has no entry
abbrev pub map_at : List (List MapEntry) → ℕ → List MapEntry
map_at maps m = slice_index_or maps m []
