use Rattle.std.proofs.Common.{◌≡◌, ◌+◌, None, map, ◌∷◌}
use Rattle.std.specs.List.{range_with_len}
use Rattle.elf_model.specs.Test.{first_failing, each_below}
use Rattle.elf_model.specs.Symbols.{null_symbol, symbol_entry_of}
use Rattle.elf_model.specs.RelSymbols as spec
use Rattle.elf_read_rel.proofs.symbols.read_symbols.Given as goal

abbrev pub invariant-loop-k : goal.invariant-loop-k
invariant-loop-k l = record {
  passed : first_failing (each_below l.k (λ k. spec.symbol_tests l.bytes (spec.strings l.bytes) (symbol_entry_of l.bytes (spec.symbols_offset l.bytes) (k + 1)))) ≡ None;
  read : l.symbols ≡ null_symbol ∷ map (λ i. spec.rel_symbol_of l.bytes (symbol_entry_of l.bytes (spec.symbols_offset l.bytes) i)) (range_with_len 1 l.k);
}
