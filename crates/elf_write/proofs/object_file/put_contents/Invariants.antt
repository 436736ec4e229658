use Rattle.std.proofs.Common.{◌≡◌, ◌≤◌, ◌+◌, ◌*◌, ◌^◌, ◌++◌, drop}
use Rattle.elf_write.specs.ObjectFile as spec
use Rattle.elf_write.proofs.object_file.put_contents.Given as goal

abbrev pub invariant-loop-segment : goal.invariant-loop-segment
invariant-loop-segment l = record {
  left : l.out ++ spec.contents l.at (drop l.segment-index l.segments) ≡ l.initial.out ++ spec.contents l.from l.segments;
  near : l.at ≤ l.from + 2 ^ 33 * l.segment-index;
}
