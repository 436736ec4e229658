use Rattle.std.proofs.Common.{◌≡◌, None, List, ◌++◌, map, take}
use Rattle.elf_model.specs.declared.table.Site.{Site}
use Rattle.elf_model.specs.Test.{first_failing, each_from}
use Rattle.elf_model.specs.Relocations.{word_site}
use Rattle.elf_read.specs.parts.Fixups as spec
use Rattle.elf_read.specs.parts.Taken.{Has}
use Rattle.elf_read.proofs.fixups.check_fixups.Given as goal

abbrev pub invariant-loop-k : goal.invariant-loop-k
invariant-loop-k l = (sites : List Site) → Has l.initial.taken sites → record {
  passed : first_failing (each_from 0 (spec.fixup_test l.loads sites l.offset l.fixups) (take l.k l.fixups)) ≡ None;
  has : Has l.taken (sites ++ map word_site (take l.k l.fixups));
}
