-- The exported names of one object as a finite map.
use Rattle.std.specs.Prelude.{ℕ, List, Option, None, option_map, if◌then◌else◌}
use Rattle.std.specs.Ordering.{nat_cmp}
use Rattle.std.specs.Cmp.Lexicographic.{slice_cmp}
use Rattle.std.specs.List.{filter_map, enumerate_from}
use Rattle.std.specs.Coded.{Coded, coded_list, coded_ℕ}
use Rattle.std.specs.FinMap.{FinMap, from_entries}
use Rattle.std.specs.FinMap as finite
use Rattle.elf_model.specs.declared.object.Symbol.{Symbol}
use Rattle.symbol_scope.specs.Exported.{is_exported}

-- the number of a symbol by each exported name
abbrev pub ExportMap : Type 0
ExportMap = FinMap (slice_cmp nat_cmp) ℕ

abbrev pub export_map_code : Coded ExportMap
export_map_code = finite.code (coded_list coded_ℕ) coded_ℕ

-- the name of a symbol with its number, where it is exported
abbrev pub export_entry : ℕ × Symbol → Option (List ℕ × ℕ)
export_entry numbered = if is_exported numbered.1 then option_map (λ name. (name, numbered.0)) numbered.1.name else None

abbrev pub export_entries : List Symbol → List (List ℕ × ℕ)
export_entries symbols = filter_map export_entry (enumerate_from 0 symbols)

-- the first number of each name
abbrev pub export_map : List (List ℕ × ℕ) → ExportMap
export_map entries = from_entries entries

-- the first symbol of each exported name
abbrev pub exports_of : List Symbol → ExportMap
exports_of symbols = export_map (export_entries symbols)
