-- Processes without addresses: which modules are live, and in which scopes their symbols are looked up.
use Rattle.std.specs.Prelude.{ℕ, Bool, false, not, List, [], filter, position, slice_get, Option, is_some, option_map, option_and_then}
use Rattle.std.specs.Option.{option_map_or}
use Rattle.std.specs.List.{range_with_len}
use Rattle.std.specs.Str.{bytes_eq}
use Rattle.elf_model.specs.declared.object.Object.{Object}
use Rattle.symbol_scope.specs.declared.tables.TheConstants.{MAX_MODULES}
use Rattle.load_model.specs.declared.module.Group.{Group}
use Rattle.load_model.specs.declared.module.Live.{Live}
use Rattle.load_model.specs.declared.module.SymbolicProcess.{SymbolicProcess}

-- the live module of a number
abbrev pub live_at : SymbolicProcess → ℕ → Option Live
live_at p m = option_and_then (λ place. place) (slice_get p.modules m)

abbrev pub is_live : SymbolicProcess → ℕ → Bool
is_live p m = is_some (live_at p m)

-- the number of the live module of a name
abbrev pub is_live_named : List ℕ → Option Live → Bool
is_live_named name place = option_map_or (λ live. bytes_eq live.name name) place false

abbrev pub number_of : SymbolicProcess → List ℕ → Option ℕ
number_of p name = position (is_live_named name) p.modules

-- the numbers that no live module has, the lowest first
abbrev pub free_numbers : SymbolicProcess → List ℕ
free_numbers p = filter (λ m. not (is_live p m)) (range_with_len 0 MAX_MODULES)

-- the live group of a number
abbrev pub group_at : SymbolicProcess → ℕ → Option Group
group_at p g = option_and_then (λ place. place) (slice_get p.groups g)

-- the object of a live module
abbrev pub object_at : SymbolicProcess → ℕ → Option Object
object_at p m = option_map (λ live. live.object) (live_at p m)

-- the scope of a live module's group
abbrev pub group_scope : SymbolicProcess → ℕ → List ℕ
group_scope p m = option_map_or (λ g. g.scope) (option_and_then (λ live. group_at p live.group) (live_at p m)) []
