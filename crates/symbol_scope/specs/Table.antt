-- What is kept of a module: its name, the names that it needs, and its exported names.
use Rattle.std.specs.Prelude.{ℕ, List}
use Rattle.elf_model.specs.declared.object.Object.{Object}
use Rattle.symbol_scope.specs.declared.table.Table.{Table}
use Rattle.symbol_scope.specs.Exports.{exports_of}

abbrev pub table_of : List ℕ → Object → Table
table_of name o = record { name = name; needed = o.needed; exports = exports_of o.symbols }
