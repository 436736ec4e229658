use Rattle.std.specs.Prelude.{IfSome}
use Rattle.idx_links.specs.parts.Nodes.{IsLive}
use Rattle.idx_links.proofs.tests.has_order.Given as goal

abbrev pub invariant-loop-value : goal.invariant-loop-value
invariant-loop-value g l = IfSome l.at (IsLive l.pool)
