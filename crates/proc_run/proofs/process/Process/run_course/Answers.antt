use Rattle.proc_run.proofs.RunParts.{course_over, part_done}
use Rattle.proc_run.proofs.process.Process.run_course.Goals as goal

pub returns-in-Ok-clause-course : goal.returns-in-Ok-clause-course
returns-in-Ok-clause-course g c =
    course_over c.run_unscheduled.result c.args.self.now.limit c.run_schedule.new.self.limit _ c.run_schedule.new.self.state _ _ _
    (g.O.Sink.faults c.args.out.now) (g.O.Sink.faults c.run_schedule.new.out) (g.O.Sink.faults c.run_unscheduled.new.out)
    c.in-Ok.ensures.ready.limit' c.run_schedule.ensures.count c.run_unscheduled.ensures.count (part_done _ _ _ _ _ _ _ _ c.in-Ok.is c.run_schedule.ensures.part) c.run_unscheduled.ensures.part
