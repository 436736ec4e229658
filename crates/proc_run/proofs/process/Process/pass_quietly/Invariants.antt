use Rattle.proc_run.specs.parts.QuietRuns.{ArePassed}
use Rattle.proc_run.specs.parts.ReadyProcess.{IsReady}
use Rattle.proc_run.proofs.process.Process.pass_quietly.Given as goal

-- nothing is told of the turns so far
abbrev pub invariant-loop-left : goal.invariant-loop-left
invariant-loop-left l = record {
  passed : ArePassed l.fn.self.limit l.thread l.fn.self.state l.fn.left l.self.state l.left;
  ready : IsReady l.fn.self.limit l.self;
}

abbrev pub decreases-loop-left : goal.decreases-loop-left
decreases-loop-left l = l.left
