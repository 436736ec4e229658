use Rattle.std.proofs.Common.{length, IfSome}
use Rattle.idx_links.specs.parts.Nodes.{AreTied, IsLive}
use Rattle.idx_links.proofs.Walked.{from_node}
use Rattle.placement.proofs.Holding.{StartBelow}
use Rattle.placement.proofs.extents.last_below.Given as goal

abbrev pub invariant-loop-next : goal.invariant-loop-next
invariant-loop-next l = record {
  live_last : IfSome l.last (IsLive l.held);
  live_next : IfSome l.next (IsLive l.held);
  tied : AreTied l.held;
  passed : StartBelow l.held.order l.range.start l.last l.next;
}

abbrev pub decreases-loop-next : goal.decreases-loop-next
decreases-loop-next l = length (from_node l.next l.held.order)
