use Rattle.std.proofs.Common.{◌≡◌, drop, ◌++◌}
use Rattle.load_image.specs.Items.{load_map_of}
use Rattle.load_image.proofs.segments.entries.Given as goal

-- the entries of the segments that are left are still to come
abbrev pub invariant-loop-i : goal.invariant-loop-i
invariant-loop-i l = l.load_map ++ load_map_of (drop l.i l.segments) (drop l.i l.addrs) ≡ load_map_of l.segments l.addrs
