use Rattle.std.proofs.Common.{◌≡◌, ◌≤◌, ◌+◌, ◌*◌, drop, length}
use Rattle.std.specs.List.{sum_by}
use Rattle.elf_write.proofs.rel_layout.rel_count.Given as goal

abbrev pub invariant-loop-section : goal.invariant-loop-section
invariant-loop-section l = record {
  total : l.count + sum_by (λ s. length s.rels) (drop l.section-index l.sections) ≡ sum_by (λ s. length s.rels) l.sections;
  near : l.count ≤ 65536 * l.section-index;
}
