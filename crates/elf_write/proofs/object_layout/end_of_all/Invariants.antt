use Rattle.std.proofs.Common.{◌≡◌, ◌≤◌, ◌+◌, ◌*◌, ◌^◌, drop}
use Rattle.elf_write.specs.ObjectFile as spec
use Rattle.elf_write.proofs.object_layout.end_of_all.Given as goal

abbrev pub invariant-loop-segment : goal.invariant-loop-segment
invariant-loop-segment l = record {
  total : spec.end_of_all l.at (drop l.segment-index l.segments) ≡ spec.end_of_all l.from l.segments;
  near : l.at ≤ l.from + 2 ^ 33 * l.segment-index;
}
