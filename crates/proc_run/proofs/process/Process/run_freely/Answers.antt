use Rattle.std.proofs.Common.{ℕ, Some, sym, subst, arith}
use Rattle.run_model.specs.Courses.{freely}
use Rattle.proc_run.specs.RunParts.{IsLeft}
use Rattle.proc_run.specs.parts.ReadyProcess.{IsReady}
use Rattle.proc_run.proofs.RunParts.{freely_over, freely_part, left_whole, part_done, part_ends}
use Rattle.proc_run.proofs.process.Process.run_freely.Goals as goal

pub returns-in-Err-clause-part : goal.returns-in-Err-clause-part
returns-in-Err-clause-part g c =
    part_ends _ _ _ _ _ _ _ _ c.in-Err.is
    (freely_part c.args.self.now.limit c.loop-left.self.limit c.loop-left.left c.step_freely.new.left c.loop-left.thread _ c.loop-left.self.state c.step_freely.new.self.state _ _ _
    (g.O.Sink.faults c.args.out.now) (g.O.Sink.faults c.loop-left.out) (g.O.Sink.faults c.step_freely.new.out) c.step_freely.result
    c.loop-left.invariant.ready.limit' c.loop-left.invariant.count c.step_freely.ensures.count
    c.loop-left.invariant.part c.step_freely.ensures.part)

pub loop-left-preserved : goal.loop-left-preserved
loop-left-preserved g c = record {
  part =
      part_done _ _ _ _ _ _ _ _ c.in-Ok.is
      (freely_part c.args.self.now.limit c.loop-left.self.limit c.loop-left.left c.step_freely.new.left c.loop-left.thread _ c.loop-left.self.state c.step_freely.new.self.state _ _ _
      (g.O.Sink.faults c.args.out.now) (g.O.Sink.faults c.loop-left.out) (g.O.Sink.faults c.step_freely.new.out) c.step_freely.result
      c.loop-left.invariant.ready.limit' c.loop-left.invariant.count c.step_freely.ensures.count
      c.loop-left.invariant.part c.step_freely.ensures.part);
  ready = subst (λ (l : ℕ). IsReady l c.step_freely.new.self) c.loop-left.invariant.ready.limit' c.in-Ok.ensures.ready;
  live = c.in-Ok.ensures.lives;
  steps = omega (arith, c.loop-left.invariant.steps, c.in-Ok.ensures.steps);
  count = omega (arith, c.loop-left.invariant.count, c.step_freely.ensures.count);
}

pub returns-clause-part : goal.returns-clause-part
returns-clause-part g c =
    freely_over c.step_at_limit.result c.args.self.now.limit c.loop-left.self.limit c.loop-left.left c.loop-left.thread _ c.loop-left.self.state _ _ _
    (g.O.Sink.faults c.args.out.now) (g.O.Sink.faults c.loop-left.out) (g.O.Sink.faults c.step_at_limit.new.out)
    c.loop-left-test.false c.loop-left.invariant.ready.limit' c.loop-left.invariant.count c.step_at_limit.ensures.count
    c.loop-left.invariant.part c.step_at_limit.ensures.part

pub loop-left-init : goal.loop-left-init
loop-left-init g c =
    let limit = c.args.self.now.limit in
    let whole = freely limit limit (Some c.args.first) c.args.self.now.state in
    record {
      part =
          subst (λ (n : ℕ). IsLeft whole (freely limit n (Some c.args.first) c.args.self.now.state) (g.O.Sink.bytes c.args.out.now) (g.O.Sink.bytes c.args.out.now))
          (sym c.limit-left.ensures) (left_whole whole (g.O.Sink.bytes c.args.out.now));
      ready = c.requires.ready;
      live = c.requires.lives;
      steps = omega (arith, c.limit-left.ensures);
      count = omega arith;
    }
