use Rattle.std.proofs.Common.{◌≡◌, ◌+◌, ◌≤◌, Some, true}
use Rattle.run_model.specs.Courses.{freely}
use Rattle.run_model.specs.State.{lives}
use Rattle.proc_run.specs.RunParts.{IsLeft}
use Rattle.proc_run.specs.parts.ReadyProcess.{IsReady}
use Rattle.proc_run.proofs.process.Process.run_freely.Given as goal

-- some steps are done, and those that are left complete the course
abbrev pub invariant-loop-left : goal.invariant-loop-left
invariant-loop-left g l = record {
  part : IsLeft
      (freely l.fn.self.limit l.fn.self.limit (Some l.fn.first) l.fn.self.state)
      (freely l.fn.self.limit l.left (Some l.thread) l.self.state)
      (g.O.Sink.bytes l.fn.out) (g.O.Sink.bytes l.out);
  ready : IsReady l.fn.self.limit l.self;
  live : lives l.self.state.threads l.thread ≡ true;
  steps : l.fn.self.limit ≤ l.self.state.steps + l.left;
  count : g.O.Sink.faults l.fn.out ≤ g.O.Sink.faults l.out;
}

abbrev pub decreases-loop-left : goal.decreases-loop-left
decreases-loop-left g l = l.left
