-- What tables say of modules.
use Rattle.std.specs.Prelude.{ℕ, Bool, false, List, [], position, slice_get, Option, option_and_then}
use Rattle.std.specs.Option.{option_map_or}
use Rattle.std.specs.List.{filter_map}
use Rattle.std.specs.FinMap.{get}
use Rattle.std.specs.Str.{bytes_eq}
use Rattle.symbol_scope.specs.declared.table.Table.{Table}
use Rattle.symbol_scope.specs.parts.Slots.{Slots}

-- the table of the module of this number
abbrev pub table_at : Slots → ℕ → Option Table
table_at slots m = option_and_then (λ slot. slot) (slice_get slots m)

-- the number of the module of this name
abbrev pub is_table_named : List ℕ → Option Table → Bool
is_table_named name slot = option_map_or (λ t. bytes_eq name t.name) slot false

abbrev pub number_named : Slots → List ℕ → Option ℕ
number_named slots name = position (is_table_named name) slots

-- the names that a module needs, in table order
abbrev pub needed_by : Slots → ℕ → List (List ℕ)
needed_by slots m = option_map_or (λ t. t.needed) (table_at slots m) []

-- the modules that a module needs, in table order
abbrev pub needs : Slots → ℕ → List ℕ
needs slots m = filter_map (number_named slots) (needed_by slots m)

-- the first exported definition of a name in a module
abbrev pub export_in : Slots → List ℕ → ℕ → Option ℕ
export_in slots name m = option_and_then (λ t. get t.exports name) (table_at slots m)
