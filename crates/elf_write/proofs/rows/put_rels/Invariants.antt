use Rattle.std.proofs.Common.{◌≡◌, ◌++◌, drop, map}
use Rattle.elf_write.specs.Words.{table_bytes, rel_row}
use Rattle.elf_write.proofs.rows.put_rels.Given as goal

abbrev pub invariant-loop-rel : goal.invariant-loop-rel
invariant-loop-rel l = l.out ++ table_bytes (map rel_row (drop l.rel-index l.rels)) ≡ l.initial.out ++ table_bytes (map rel_row l.rels)
