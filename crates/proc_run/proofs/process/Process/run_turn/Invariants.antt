use Rattle.std.proofs.Common.{◌≤◌}
use Rattle.run_model.specs.Courses.{Course, turns_of}
use Rattle.run_model.specs.State.{State}
use Rattle.proc_run.specs.RunParts.{IsLeft}
use Rattle.proc_run.specs.parts.ReadyProcess.{IsReady}
use Rattle.proc_run.proofs.process.Process.run_turn.Given as goal

-- some steps of the turn are done, and those that are left complete it
abbrev pub invariant-loop-left : goal.invariant-loop-left
invariant-loop-left g l = record {
  part : (rest : State → Course) → IsLeft
      (turns_of l.fn.self.limit l.turn.thread rest l.turn.count l.fn.self.state)
      (turns_of l.fn.self.limit l.turn.thread rest l.left l.self.state)
      (g.O.Sink.bytes l.fn.out) (g.O.Sink.bytes l.out);
  ready : IsReady l.fn.self.limit l.self;
  count : g.O.Sink.faults l.fn.out ≤ g.O.Sink.faults l.out;
}

abbrev pub decreases-loop-left : goal.decreases-loop-left
decreases-loop-left g l = l.left
