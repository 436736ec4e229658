use Rattle.std.proofs.Common.{◌≡◌, None, take}
use Rattle.elf_model.specs.Test.{first_failing, each_from}
use Rattle.elf_model.specs.Relocations as spec
use Rattle.elf_read.specs.parts.Taken.{Has}
use Rattle.elf_read.proofs.relocations.check_relocations.Given as goal

abbrev pub invariant-loop-e : goal.invariant-loop-e
invariant-loop-e l = record {
  passed : first_failing (each_from 0 (λ k e. spec.rel_entry_tests l.loads l.symbol_count (spec.sites_before l.got l.entries k) e) (take l.e-index l.entries)) ≡ None;
  has : Has l.taken (spec.sites_before l.got l.entries l.e-index);
}
