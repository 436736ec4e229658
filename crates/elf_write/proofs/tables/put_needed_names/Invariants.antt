use Rattle.std.proofs.Common.{◌≡◌, ◌++◌, Some, drop, map}
use Rattle.std.specs.List.{flat_map}
use Rattle.elf_write.specs.Strings.{name_bytes}
use Rattle.elf_write.proofs.tables.put_needed_names.Given as goal

abbrev pub invariant-loop-name : goal.invariant-loop-name
invariant-loop-name l = l.out ++ flat_map name_bytes (map Some (drop l.name-index l.needed)) ≡ l.initial.out ++ flat_map name_bytes (map Some l.needed)
