use Rattle.proc_run.proofs.RunEnds.{run_ends_with}
use Rattle.proc_run.proofs.course.run.Goals as goal

pub returns-in-Ok-clause-ends : goal.returns-in-Ok-clause-ends
returns-in-Ok-clause-ends g c =
    run_ends_with c.run.result c.args.job.now (g.S.Store.files c.args.store.now) c.in-Ok.process c.as_slice.result.now _ _ _ _ _ _ c.as_slice.ensures c.in-Ok.ensures.started
    c.run.ensures.course
