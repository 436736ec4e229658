use Rattle.std.proofs.Common.{◌≡◌, ◌+◌, ◌*◌, ◌++◌, drop, map, length}
use Rattle.std.specs.List.{sum_by}
use Rattle.elf_write.specs.Words.{table_bytes, section_row}
use Rattle.elf_write.specs.RelFile as spec
use Rattle.elf_write.proofs.rel_headers.put_rel_headers.Given as goal

abbrev pub invariant-loop-section : goal.invariant-loop-section
invariant-loop-section l = record {
  left : l.out ++ table_bytes (map section_row (spec.rel_headers l.symtab l.at l.i (drop l.section-index l.sections))) ≡ l.initial.out ++ table_bytes (map section_row (spec.rel_headers l.symtab l.from 1 l.sections));
  total : l.at + 8 * sum_by (λ s. length s.rels) (drop l.section-index l.sections) ≡ l.from + 8 * sum_by (λ s. length s.rels) l.sections;
  index : l.i ≡ 1 + l.section-index;
}
