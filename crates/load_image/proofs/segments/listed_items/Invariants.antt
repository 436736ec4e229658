use Rattle.std.proofs.Common.{◌≡◌, drop, ◌++◌}
use Rattle.load_image.specs.Items.{items_of}
use Rattle.load_image.proofs.segments.listed_items.Given as goal

-- the items of the segments that are left are still to come
abbrev pub invariant-loop-i : goal.invariant-loop-i
invariant-loop-i l = l.items ++ items_of l.owner (drop l.i l.segments) (drop l.i l.listed) ≡ items_of l.owner l.segments l.listed
