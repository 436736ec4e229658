use Rattle.std.proofs.Common.{◌≡◌, ◌+◌, ◌==◌, drop}
use Rattle.std.specs.List.{prefix_len}
use Rattle.elf_write.proofs.rel_headers.local_count.Given as goal

abbrev pub invariant-loop-symbol : goal.invariant-loop-symbol
invariant-loop-symbol l = record {
  left : l.count + prefix_len (λ s. s.binding == 0) (drop l.symbol-index l.symbols) ≡ prefix_len (λ s. s.binding == 0) l.symbols;
  index : l.count ≡ l.symbol-index;
}
