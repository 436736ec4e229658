use Rattle.std.proofs.Common.{length, IfSome}
use Rattle.idx_links.specs.parts.Nodes.{AreTied, IsLive}
use Rattle.idx_links.proofs.Walked.{from_node}
use Rattle.placement.proofs.Holding.{IsListed}
use Rattle.placement.proofs.extents.listed.Given as goal

abbrev pub invariant-loop-next : goal.invariant-loop-next
invariant-loop-next l = record {
  live : IfSome l.next (IsLive l.held);
  tied : AreTied l.held;
  listed : IsListed l.held l.next l.list.items;
}

abbrev pub decreases-loop-next : goal.decreases-loop-next
decreases-loop-next l = length (from_node l.next l.held.order)
