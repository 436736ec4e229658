use Rattle.std.proofs.Common.{◌≡◌, ◌≤◌, ◌+◌, ◌*◌, Some, drop, map, length}
use Rattle.std.specs.List.{flat_map}
use Rattle.elf_write.specs.Strings.{name_bytes}
use Rattle.elf_write.proofs.table_layout.needed_size.Given as goal

abbrev pub invariant-loop-name : goal.invariant-loop-name
invariant-loop-name l = record {
  total : l.size + length (flat_map name_bytes (map Some (drop l.name-index l.needed))) ≡ length (flat_map name_bytes (map Some l.needed));
  near : l.size ≤ 256 * l.name-index;
}
