use Rattle.std.proofs.Common.{◌≡◌, ◌++◌, drop, map}
use Rattle.std.specs.List.{flat_map}
use Rattle.elf_write.specs.Strings.{name_bytes, strings}
use Rattle.elf_write.proofs.strings.put_symbol_strings.Given as goal

abbrev pub invariant-loop-symbol : goal.invariant-loop-symbol
invariant-loop-symbol l = l.out ++ flat_map name_bytes (map (λ s. s.name) (drop l.symbol-index l.symbols)) ≡ l.fn.out ++ strings (map (λ s. s.name) l.symbols)
