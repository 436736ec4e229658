use Rattle.std.proofs.Common.{◌≡◌, ◌≤◌, ◌+◌, ◌*◌, ◌^◌, ◌++◌, drop, map}
use Rattle.elf_write.specs.Words.{table_bytes, program_row}
use Rattle.elf_write.specs.ObjectFile as spec
use Rattle.elf_write.proofs.object_file.put_load_headers.Given as goal

abbrev pub invariant-loop-segment : goal.invariant-loop-segment
invariant-loop-segment l = record {
  left : l.out ++ table_bytes (map program_row (spec.load_headers l.at (drop l.segment-index l.segments))) ≡ l.initial.out ++ table_bytes (map program_row (spec.load_headers l.from l.segments));
  total : spec.end_of_all l.at (drop l.segment-index l.segments) ≡ spec.end_of_all l.from l.segments;
  near : l.at ≤ l.from + 2 ^ 33 * l.segment-index;
}
