-- The slots of a process, a line for each.
use Rattle.std.specs.Prelude.{ℕ, List, ◌++◌, codes}
use Rattle.std.specs.List.{flat_map, range_with_len}
use Rattle.load_map.specs.declared.entry.MapEntry.{MapEntry}
use Rattle.symbol_scope.specs.declared.tables.TheConstants.{MAX_MODULES}
use Rattle.load_model.specs.declared.module.SymbolicProcess.{SymbolicProcess}
use Rattle.load_model.specs.declared.words.SlotPair.{SlotPair}
use Rattle.load_state.specs.Slots.{slots_of_module}
use Rattle.fd_base.specs.Fields.{decimal_field, hex_field, numbered}

-- slot k of module m: where it lies, and its two words
unfoldable pub slot_line : ℕ → ℕ → SlotPair → List ℕ
slot_line m k pair =
    codes "slot" ++ decimal_field m ++ decimal_field k ++ hex_field pair.addr ++ hex_field pair.code ++ hex_field pair.got ++ codes "\n"

-- the slots of module m in order; none where no module has this number
abbrev pub module_lines : SymbolicProcess → List (List MapEntry) → ℕ → List ℕ
module_lines process maps m = numbered (slot_line m) 0 (slots_of_module process maps m)

-- the slots of the live modules by number
unfoldable pub slot_listing : SymbolicProcess → List (List MapEntry) → List ℕ
slot_listing process maps = flat_map (module_lines process maps) (range_with_len 0 MAX_MODULES)
