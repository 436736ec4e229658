use Rattle.proc_run.proofs.RunParts.{at_limit, part_ends}
use Rattle.proc_run.proofs.process.Process.step_at_limit.Goals as goal

pub returns-clause-part : goal.returns-clause-part
returns-clause-part g c =
    at_limit c.in-Err.end c.args.self.now.limit c.args.self.now.state c.args.thread _ _ _ _ c.requires.lives c.requires.limit
    (λ same others. part_ends _ _ _ _ _ _ _ _ c.in-Err.is (c.step.ensures.part same others))
