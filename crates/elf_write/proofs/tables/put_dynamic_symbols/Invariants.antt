use Rattle.std.proofs.Common.{◌≡◌, ◌≤◌, ◌+◌, ◌*◌, ◌++◌, drop}
use Rattle.elf_write.specs.Words.{table_bytes}
use Rattle.elf_write.specs.TableSegment.{symbol_rows}
use Rattle.elf_write.proofs.tables.put_dynamic_symbols.Given as goal

abbrev pub invariant-loop-symbol : goal.invariant-loop-symbol
invariant-loop-symbol l = record {
  left : l.out ++ table_bytes (symbol_rows l.at (drop l.symbol-index l.symbols)) ≡ l.initial.out ++ table_bytes (symbol_rows 1 l.symbols);
  near : l.at ≤ 1 + 256 * l.symbol-index;
}
