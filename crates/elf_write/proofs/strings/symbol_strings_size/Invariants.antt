use Rattle.std.proofs.Common.{◌≡◌, ◌≤◌, ◌+◌, ◌*◌, drop, map, length}
use Rattle.std.specs.List.{flat_map}
use Rattle.elf_write.specs.Strings.{name_bytes}
use Rattle.elf_write.proofs.strings.symbol_strings_size.Given as goal

abbrev pub invariant-loop-symbol : goal.invariant-loop-symbol
invariant-loop-symbol l = record {
  total : l.size + length (flat_map name_bytes (map (λ s. s.name) (drop l.symbol-index l.symbols))) ≡ 1 + length (flat_map name_bytes (map (λ s. s.name) l.symbols));
  near : l.size ≤ 1 + 256 * l.symbol-index;
}
