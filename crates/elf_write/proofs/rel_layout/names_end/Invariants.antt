use Rattle.std.proofs.Common.{◌≡◌, ◌≤◌, ◌+◌, ◌*◌, drop, map, length}
use Rattle.std.specs.List.{flat_map}
use Rattle.elf_write.specs.Strings.{name_bytes}
use Rattle.elf_write.proofs.rel_layout.names_end.Given as goal

abbrev pub invariant-loop-section : goal.invariant-loop-section
invariant-loop-section l = record {
  total : l.size + length (flat_map name_bytes (map (λ s. s.name) (drop l.section-index l.sections))) ≡ 1 + length (flat_map name_bytes (map (λ s. s.name) l.sections));
  near : l.size ≤ 1 + 256 * l.section-index;
}
