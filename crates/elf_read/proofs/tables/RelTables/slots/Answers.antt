use Rattle.std.proofs.Common.{length}
use Rattle.elf_read.proofs.tables.RelTables.slots.Goals as goal

pub entries_of-requires-clause-inside : goal.entries_of-requires-clause-inside
entries_of-requires-clause-inside c = rw c.in-Some.is at (c.in_ok-range_of.ensures.in_file (length c.args.self.bytes.now) c.requires.in_file)
