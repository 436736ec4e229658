use Rattle.std.proofs.Common.{◌≡◌, ◌+◌, None, map, ◌∷◌}
use Rattle.std.specs.List.{range_with_len}
use Rattle.elf_model.specs.Test.{first_failing, each_below}
use Rattle.elf_model.specs.Symbols as spec
use Rattle.elf_read.proofs.symbols.read_symbols.Given as goal

abbrev pub invariant-loop-k : goal.invariant-loop-k
invariant-loop-k l = record {
  passed : first_failing (each_below l.k (λ k. spec.symbol_tests l.loads l.strings (spec.symbol_entry_of l.bytes l.table.offset (k + 1)))) ≡ None;
  read : l.symbols ≡ spec.null_symbol ∷ map (λ i. spec.symbol_of l.strings (spec.symbol_entry_of l.bytes l.table.offset i)) (range_with_len 1 l.k);
}
