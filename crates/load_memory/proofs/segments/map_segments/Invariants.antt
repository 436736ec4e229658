use Rattle.std.proofs.Common.{◌≡◌}
use Rattle.guest_mem.specs.Memory.{IsMemory}
use Rattle.load_memory.specs.parts.PlacingSteps.{AreMapped}
use Rattle.load_memory.proofs.segments.map_segments.Given as goal

-- the segments so far are mapped
abbrev pub invariant-loop-i : goal.invariant-loop-i
invariant-loop-i l = record {
  mapped : AreMapped l.segments l.load_map l.i l.fn.guest l.guest;
  bytes : l.guest.bytes ≡ l.fn.guest.bytes;
  whole : IsMemory l.guest;
}
