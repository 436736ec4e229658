use Rattle.std.proofs.Common.{◌≡◌, ℕ, ◌<◌, false}
use Rattle.elf_model.specs.Sections.{section_header}
use Rattle.elf_read.specs.parts.HeaderTables.{is_symbols_at}
use Rattle.elf_read.proofs.sections.symbol_section.Given as goal

abbrev pub invariant-loop-i : goal.invariant-loop-i
invariant-loop-i l = (k : ℕ) → k < l.i → is_symbols_at l.addr (section_header l.bytes k) ≡ false
