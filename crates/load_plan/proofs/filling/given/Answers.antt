use Rattle.std.proofs.Common.{sym, ◌∙◌}
use Rattle.func_desc.specs.Pool.{free_slots}
use Rattle.load_plan.proofs.PairedLists.{zip_all, zip_more}
use Rattle.load_plan.proofs.filling.given.Goals as goal

pub loop-i-preserved : goal.loop-i-preserved
loop-i-preserved c =
    let found = c.in-Some-Some.ensures.lookup in
    let more = zip_more c.args.wanted.now (free_slots c.args.pool.now) c.loop-i.i c.in-Some-Some.f.now c.in-Some-Some.addr found.3.0 (sym c.in-Some-Some.ensures') in
    rw (c.in_ok-push.ensures, c.loop-i.invariant) (sym (rw (sym found.1) at more))

pub returns : goal.returns
returns c = c.loop-i.invariant ∙ zip_all c.args.wanted.now (free_slots c.args.pool.now) c.loop-i.i (rw c.free-i-end.ensures at c.loop-i-test.false)
