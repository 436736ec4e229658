use Rattle.std.proofs.Common.{◌≡◌, ◌<◌, ◌^◌, drop}
use Rattle.std.specs.Prelude.{max}
use Rattle.elf_write.specs.TableSegment as spec
use Rattle.elf_write.proofs.table_layout.memory_end.Given as goal

abbrev pub invariant-loop-segment : goal.invariant-loop-segment
invariant-loop-segment l = record {
  total : max l.end (spec.memory_end (drop l.segment-index l.segments)) ≡ spec.memory_end l.segments;
  near : l.end < 2 ^ 33;
}
