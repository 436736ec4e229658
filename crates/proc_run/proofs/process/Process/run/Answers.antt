use Rattle.proc_run.proofs.RunParts.{after_report}
use Rattle.proc_run.proofs.process.Process.run.Goals as goal

pub returns-in-Ok-clause-course : goal.returns-in-Ok-clause-course
returns-in-Ok-clause-course g c =
    after_report c.run_course.result c.args.turns.now c.args.self.now c.report.new.self _ _ _ (g.O.Sink.faults c.args.out.now) (g.O.Sink.faults c.report.new.out)
    (g.O.Sink.faults c.run_course.new.out) c.in-Ok.ensures.rest c.report.ensures.count c.run_course.ensures.count c.in-Ok.ensures.lines c.run_course.ensures.course
