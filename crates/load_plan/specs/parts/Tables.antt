-- The tables in which names are looked up.
use Rattle.std.specs.Prelude.{◌≡◌, ◌≢◌, ℕ, List, length, Option, Some, option_map, All}
use Rattle.elf_model.specs.declared.object.Object.{Object}
use Rattle.symbol_scope.specs.declared.tables.TheConstants.{MAX_MODULES}
use Rattle.symbol_scope.specs.Exports.{ExportMap, exports_of}
use Rattle.symbol_scope.specs.parts.Needs.{table_at}
use Rattle.symbol_scope.specs.parts.Slots.{Slots}
use Rattle.symbol_scope.specs.Table.{table_of}
use Rattle.load_model.specs.declared.module.Joining.{Joining}
use Rattle.load_model.specs.declared.module.SymbolicProcess.{SymbolicProcess}
use Rattle.load_model.specs.Process.{object_at}

-- the exported names in the table of a number
abbrev pub exports_at : Slots → ℕ → Option ExportMap
exports_at tables m = option_map (λ t. t.exports) (table_at tables m)

-- the tables are those of these objects, by number, and there are no others
pub record AreTables (objects : ℕ → Option Object) (tables : Slots) : Type 0 where
  pub size : length tables ≡ MAX_MODULES
  pub each : (m : ℕ) → exports_at tables m ≡ option_map (λ o. exports_of o.symbols) (objects m)

-- each live module has its table. A plan that wasn't committed may have left others.
pub record HasTables (p : SymbolicProcess) (tables : Slots) : Type 0 where
  pub size : length tables ≡ MAX_MODULES
  pub live : (m : ℕ) (o : Object) → object_at p m ≡ Some o → exports_at tables m ≡ Some (exports_of o.symbols)

-- the table of a new module stands at its number
abbrev pub HasTable : Slots → Joining → Type 0
HasTable tables j = table_at tables j.number ≡ Some (table_of j.name j.object)

-- Each of these modules has its table, and where none of them has its number a table stays.
pub record ArePut (joining : List Joining) (old new : Slots) : Type 0 where
  pub size : length new ≡ length old
  pub each : All (HasTable new) joining
  pub others : (m : ℕ) → All (λ j. j.number ≢ m) joining → table_at new m ≡ table_at old m
