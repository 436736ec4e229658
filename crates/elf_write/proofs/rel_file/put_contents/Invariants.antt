use Rattle.std.proofs.Common.{◌≡◌, ◌≤◌, ◌+◌, ◌*◌, ◌^◌, ◌++◌, drop}
use Rattle.elf_model.specs.declared.constants.TheConstants.{EHDR_SIZE}
use Rattle.elf_write.specs.RelFile as spec
use Rattle.elf_write.proofs.rel_file.put_contents.Given as goal

abbrev pub invariant-loop-section : goal.invariant-loop-section
invariant-loop-section l = record {
  left : l.out ++ spec.contents l.at (drop l.section-index l.sections) ≡ l.initial.out ++ spec.contents EHDR_SIZE l.sections;
  near : l.at ≤ 52 + 2 ^ 23 * l.section-index;
}
