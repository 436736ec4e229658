use Rattle.std.proofs.Common.{length}
use Rattle.idx_links.specs.parts.Nodes.{chain_of}
use Rattle.idx_links.proofs.Owned.{HasLeft}
use Rattle.idx_links.proofs.pool.Pool.remove_owner.Given as goal

abbrev pub invariant-loop-id : goal.invariant-loop-id
invariant-loop-id g l = HasLeft l.owner l.fn.self l.self l.count

abbrev pub decreases-loop-id : goal.decreases-loop-id
decreases-loop-id g l = length (chain_of l.self l.owner)
