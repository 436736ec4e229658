use Rattle.std.proofs.Common.{◌≡◌, None, map, ◌++◌}
use Rattle.std.specs.List.{range_with_len}
use Rattle.elf_model.specs.Test.{first_failing, each_below}
use Rattle.elf_model.specs.Relocations.{rel_of}
use Rattle.elf_model.specs.RelEntries as spec
use Rattle.elf_read_rel.proofs.relocations.read_entries.Given as goal

abbrev pub invariant-loop-k : goal.invariant-loop-k
invariant-loop-k l = record {
  passed : first_failing (each_below l.k (spec.entry_tests l.bytes l.h)) ≡ None;
  read : l.rels ≡ l.initial.rels ++ map (λ k. rel_of (spec.entry_of l.bytes l.h k)) (range_with_len 0 l.k);
}
