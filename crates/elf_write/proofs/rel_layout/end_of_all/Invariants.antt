use Rattle.std.proofs.Common.{◌≡◌, ◌≤◌, ◌+◌, ◌*◌, ◌^◌, drop}
use Rattle.elf_model.specs.declared.constants.TheConstants.{EHDR_SIZE}
use Rattle.elf_write.specs.RelFile as spec
use Rattle.elf_write.proofs.rel_layout.end_of_all.Given as goal

abbrev pub invariant-loop-section : goal.invariant-loop-section
invariant-loop-section l = record {
  total : spec.end_of_all l.at (drop l.section-index l.sections) ≡ spec.end_of_all EHDR_SIZE l.sections;
  near : l.at ≤ 52 + 2 ^ 23 * l.section-index;
}
