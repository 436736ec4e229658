use Rattle.std.proofs.Common.{◌≡◌, None}
use Rattle.elf_model.specs.Test.{first_failing, each_below}
use Rattle.elf_model.specs.RelSections.{section_tests}
use Rattle.elf_read_rel.specs.parts.Kept.{HasKept}
use Rattle.elf_read_rel.proofs.kept.read_kept.Given as goal

abbrev pub invariant-loop-i : goal.invariant-loop-i
invariant-loop-i l = record {
  passed : first_failing (each_below l.i (section_tests l.bytes)) ≡ None;
  kept : HasKept l.bytes l.i l.kept;
}
