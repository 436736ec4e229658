use Rattle.std.proofs.Common.{◌≡◌, ◌+◌, ◌*◌, ◌++◌, length, take}
use Rattle.std.specs.List.{flat_map}
use Rattle.byteorder.specs.Endian.{little_bytes}
use Rattle.load_map.specs.Image.{entry_bytes}
use Rattle.load_map.proofs.image.MapImage.of.Given as goal

-- the entries so far are written behind the head
abbrev pub invariant-loop-entry : goal.invariant-loop-entry
invariant-loop-entry l = record {
  bytes : l.image ≡ little_bytes 2 0 ++ little_bytes 2 (length l.entries) ++ flat_map entry_bytes (take l.entry-index l.entries);
  size : length l.image ≡ 4 + 12 * l.entry-index;
}
