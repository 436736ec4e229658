use Rattle.std.proofs.Common.{◌≡◌, ◌≤◌, ◌+◌, ◌*◌, ◌^◌, ◌++◌, drop, map}
use Rattle.elf_model.specs.declared.constants.TheConstants.{EHDR_SIZE}
use Rattle.elf_write.specs.Words.{table_bytes, section_row}
use Rattle.elf_write.specs.RelFile as spec
use Rattle.elf_write.proofs.rel_headers.put_kept_headers.Given as goal

abbrev pub invariant-loop-section : goal.invariant-loop-section
invariant-loop-section l = record {
  left : l.out ++ table_bytes (map section_row (spec.kept_headers l.at l.name (drop l.section-index l.sections))) ≡ l.initial.out ++ table_bytes (map section_row (spec.kept_headers EHDR_SIZE 1 l.sections));
  total : spec.end_of_all l.at (drop l.section-index l.sections) ≡ spec.end_of_all EHDR_SIZE l.sections;
  near : l.at ≤ 52 + 2 ^ 23 * l.section-index;
  named : l.name ≤ 1 + 256 * l.section-index;
}
