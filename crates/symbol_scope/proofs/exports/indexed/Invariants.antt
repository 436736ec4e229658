use Rattle.std.proofs.Common.{◌≡◌, ◌++◌, drop}
use Rattle.std.specs.List.{filter_map, enumerate_from}
use Rattle.symbol_scope.specs.Exports.{export_entry, export_map, exports_of}
use Rattle.symbol_scope.proofs.exports.indexed.Given as goal

-- the entries of the other symbols are still to come
abbrev pub invariant-loop-i : goal.invariant-loop-i
invariant-loop-i l = export_map (l.index.entries ++ filter_map export_entry (enumerate_from l.i (drop l.i l.symbols))) ≡ exports_of l.symbols
