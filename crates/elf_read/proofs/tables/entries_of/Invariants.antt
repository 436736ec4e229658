use Rattle.std.proofs.Common.{◌≡◌}
use Rattle.elf_model.specs.Relocations.{entries_at}
use Rattle.elf_read.specs.parts.Tables.{places_below}
use Rattle.elf_read.proofs.tables.entries_of.Given as goal

abbrev pub invariant-loop-k : goal.invariant-loop-k
invariant-loop-k l = l.entries.items ≡ entries_at l.bytes l.table l.range.offset (places_below l.range l.left_out l.k)
