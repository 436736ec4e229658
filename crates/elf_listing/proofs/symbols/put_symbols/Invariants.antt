use Rattle.std.proofs.Common.{◌≡◌, ◌++◌, drop}
use Rattle.elf_listing.specs.Listing.{symbol_line}
use Rattle.fd_base.specs.Fields.{numbered}
use Rattle.elf_listing.proofs.symbols.put_symbols.Given as goal

abbrev pub invariant-loop-i : goal.invariant-loop-i
invariant-loop-i l = l.out ++ numbered symbol_line l.i (drop l.i l.symbols) ≡ l.fn.out ++ numbered symbol_line 0 l.symbols
