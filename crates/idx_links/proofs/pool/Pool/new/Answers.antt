use Rattle.idx_links.proofs.Keeping.{kept_none}
use Rattle.idx_links.proofs.pool.Pool.new.Goals as goal

pub invariant_of-result : goal.invariant_of-result
invariant_of-result g c = rw (c.in_ok-new.ensures, c.in_ok-new-2.ensures, c.new-3.ensures.items) (kept_none c.args.owners)
