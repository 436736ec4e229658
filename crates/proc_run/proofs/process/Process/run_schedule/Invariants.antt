use Rattle.std.proofs.Common.{◌≤◌, drop}
use Rattle.run_model.specs.Courses.{course_of}
use Rattle.proc_run.specs.RunParts.{IsLeft, schedule_of}
use Rattle.proc_run.specs.parts.ReadyProcess.{IsReady}
use Rattle.proc_run.proofs.process.Process.run_schedule.Given as goal

-- some turns are done, and those that are left complete the schedule
abbrev pub invariant-loop-turn : goal.invariant-loop-turn
invariant-loop-turn g l = record {
  part : IsLeft
      (course_of l.fn.self.limit (schedule_of l.turns) l.fn.self.state)
      (course_of l.fn.self.limit (schedule_of (drop l.turn-index l.turns)) l.self.state)
      (g.O.Sink.bytes l.fn.out) (g.O.Sink.bytes l.out);
  ready : IsReady l.fn.self.limit l.self;
  count : g.O.Sink.faults l.fn.out ≤ g.O.Sink.faults l.out;
}
