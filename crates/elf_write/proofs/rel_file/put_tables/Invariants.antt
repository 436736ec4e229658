use Rattle.std.proofs.Common.{◌≡◌, ◌++◌, drop}
use Rattle.std.specs.List.{flat_map}
use Rattle.elf_write.specs.RelFile.{rel_bytes}
use Rattle.elf_write.proofs.rel_file.put_tables.Given as goal

abbrev pub invariant-loop-section : goal.invariant-loop-section
invariant-loop-section l = l.out ++ flat_map rel_bytes (drop l.section-index l.sections) ≡ l.initial.out ++ flat_map rel_bytes l.sections
