use Rattle.fdpic_cmd.proofs.RunCommand.{ran}
use Rattle.fdpic_cmd.proofs.run.run_job.Goals as goal

pub returns-in-Ok-clause-ends : goal.returns-in-Ok-clause-ends
returns-in-Ok-clause-ends g c =
    ran c.args.job_file.now c.in-Ok.job c.run.result c.status_of.result _ _ _ _ _ _ _ _ _ _ c.status_of.ensures c.in-Ok.ensures.files c.run.ensures.files c.in-Ok.ensures.count
    c.run.ensures.store_count c.in-Ok.ensures.answer c.run.ensures.ends
