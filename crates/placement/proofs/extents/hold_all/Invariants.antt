use Rattle.std.proofs.Common.{◌≡◌, ◌+◌, drop, length}
use Rattle.placement.specs.Space.{all_held}
use Rattle.placement.specs.parts.Extents.{ranges_of}
use Rattle.placement.proofs.extents.hold_all.Given as goal

-- the rest of the items are still to come
abbrev pub invariant-loop-i : goal.invariant-loop-i
invariant-loop-i l = record {
  held : all_held (drop l.i l.items) (drop l.i l.addrs) (ranges_of l.held) ≡ all_held l.items l.addrs (ranges_of l.fn.held);
  spare : l.held.spare + l.i ≡ l.fn.held.spare;
  owners : length l.held.chains ≡ length l.fn.held.chains;
}
