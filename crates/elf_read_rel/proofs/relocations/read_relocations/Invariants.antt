use Rattle.std.proofs.Common.{◌≡◌, None}
use Rattle.elf_model.specs.Test.{first_failing, each_below, only_where}
use Rattle.elf_model.specs.Sections.{section_header}
use Rattle.elf_model.specs.RelEntries.{relocates, relocating_tests}
use Rattle.elf_read_rel.specs.parts.Lists.{HasLists}
use Rattle.elf_read_rel.proofs.relocations.read_relocations.Given as goal

abbrev pub invariant-loop-i : goal.invariant-loop-i
invariant-loop-i l = record {
  passed : first_failing (each_below l.i (λ i. only_where (relocates l.bytes (section_header l.bytes i)) (relocating_tests l.bytes i))) ≡ None;
  lists : HasLists l.bytes l.i l.lists;
}
