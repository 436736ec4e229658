use Rattle.func_desc.proofs.Kept.{kept_none}
use Rattle.func_desc.proofs.pool.DescPool.new.Goals as goal

pub invariant_of-result : goal.invariant_of-result
invariant_of-result c = rw (c.in_ok-new.ensures, c.in_ok-new-2.ensures.none) (kept_none c.args.base c.args.slots c.in_ok-new-2.field-0.spare c.in_ok-new-2.ensures.room)
