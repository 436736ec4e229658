use Rattle.std.proofs.Common.{◌≡◌, ◌≤◌, ◌+◌, ◌*◌, ◌++◌, drop}
use Rattle.elf_write.specs.TableSegment.{needed_entries}
use Rattle.elf_write.specs.parts.ObjectSizes.{entry_bytes}
use Rattle.elf_write.proofs.entries.put_needed.Given as goal

abbrev pub invariant-loop-name : goal.invariant-loop-name
invariant-loop-name l = record {
  left : l.out ++ entry_bytes (needed_entries l.at (drop l.name-index l.needed)) ≡ l.initial.out ++ entry_bytes (needed_entries l.place l.needed);
  near : l.at ≤ l.place + 256 * l.name-index;
}
