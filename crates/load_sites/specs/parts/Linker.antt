-- What a linker looks names up in, and when it can be asked.
use Rattle.std.specs.Prelude.{◌≡◌, ℕ, ◌^◌, ◌≤◌, length, Some, option_map}
use Rattle.elf_model.specs.declared.object.Object.{Object}
use Rattle.symbol_scope.specs.Exports.{exports_of}
use Rattle.symbol_scope.specs.parts.Needs.{table_at}
use Rattle.load_model.specs.Definition.{Linkage}
use Rattle.load_model.specs.Linkage.{linkage_with}
use Rattle.load_sites.specs.declared.linker.Linker.{Linker}

-- the live modules, and the new ones with their scope
unfoldable pub linkage : Linker → Linkage
linkage l = linkage_with l.process.now l.joining.now l.scope.now

-- The tables are those of the modules, and no module has more symbols than a table can number.
pub record IsReady (l : Linker) : Type 0 where
  pub tables : (m : ℕ) → option_map (λ t. t.exports) (table_at l.tables.now.slots m) ≡ option_map (λ o. exports_of o.symbols) ((linkage l).objects m)
  pub few : (m : ℕ) (o : Object) → (linkage l).objects m ≡ Some o → length o.symbols ≤ 2 ^ 32
