use Rattle.std.proofs.Common.{◌≡◌, None, take, map}
use Rattle.elf_model.specs.Test.{first_failing, each_from}
use Rattle.elf_model.specs.Dynamic as spec
use Rattle.elf_read.proofs.names.read_needed.Given as goal

abbrev pub invariant-loop-k : goal.invariant-loop-k
invariant-loop-k l = record {
  needed : l.e-items ≡ spec.needed_entries l.entries;
  passed : first_failing (each_from 0 (spec.needed_entry_tests l.strings) (take l.k l.e-items)) ≡ None;
  named : l.names ≡ map (spec.needed_name l.strings) (take l.k l.e-items);
}
