-- What is asked of a loader: which module lies at an address, and whether its functions that should be called first are
-- passed over.
use Rattle.std.specs.Prelude.{ℕ, Bool, false, List, Option, find}
use Rattle.std.specs.List.{list_any, range_with_len}
use Rattle.std.specs.Option.{option_map_or}
use Rattle.elf_model.specs.Inits.{has_inits}
use Rattle.load_map.specs.declared.entry.MapEntry.{MapEntry}
use Rattle.symbol_scope.specs.declared.tables.TheConstants.{MAX_MODULES}
use Rattle.load_model.specs.declared.module.SymbolicProcess.{SymbolicProcess}
use Rattle.fd_base.specs.Ranges.{is_in}
use Rattle.load_model.specs.Process.{object_at}
use Rattle.load_map.specs.Maps.{map_at}

-- whether a placed segment of module m holds the address
abbrev pub lies_in : List (List MapEntry) → ℕ → ℕ → Bool
lies_in maps a m = list_any (λ e. is_in e.addr e.memsz a) (map_at maps m)

-- the module that lies at an address
abbrev pub module_at : List (List MapEntry) → ℕ → Option ℕ
module_at maps a = find (lies_in maps a) (range_with_len 0 MAX_MODULES)

abbrev pub is_skipped : SymbolicProcess → ℕ → Bool
is_skipped p m = option_map_or (λ o. has_inits o.inits) (object_at p m) false
