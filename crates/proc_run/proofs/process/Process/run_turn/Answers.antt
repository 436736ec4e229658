use Rattle.std.proofs.Common.{ℕ, Ok, ap, sym, subst, ◌∙◌, arith}
use Rattle.proc_run.specs.parts.ReadyProcess.{IsReady}
use Rattle.proc_run.proofs.RunParts.{dead_turn, left_as, no_turn, part_done, part_ends, turn_part}
use Rattle.proc_run.proofs.process.Process.run_turn.Goals as goal

pub returns-then-not-lives-clause-part : goal.returns-then-not-lives-clause-part
returns-then-not-lives-clause-part g c = λ rest.
    left_as _ _ _ _ _
    (dead_turn c.args.self.now.limit c.args.turn.now.thread rest c.loop-left.left c.loop-left.self.state c.loop-left-test.true (sym c.lives.ensures ∙ c.if-not-lives.true))
    (c.loop-left.invariant.part rest)

pub returns-in-Ok-Others-clause-part : goal.returns-in-Ok-Others-clause-part
returns-in-Ok-Others-clause-part g c = λ rest.
    part_done _ _ _ _ _ _ _ _ (c.in-Ok-Others.is ∙ ap Ok c.in-Ok-Others.field-0-is)
    (turn_part c.args.self.now.limit c.loop-left.self.limit c.args.turn.now.thread c.loop-left.left c.step_on.new.left rest _ c.loop-left.self.state c.step_on.new.self.state _ _ _
    (g.O.Sink.faults c.args.out.now) (g.O.Sink.faults c.loop-left.out) (g.O.Sink.faults c.step_on.new.out) c.step_on.result
    c.loop-left.invariant.ready.limit' c.loop-left.invariant.count c.step_on.ensures.count (c.loop-left.invariant.part rest) c.step_on.ensures.part)

pub returns-in-Err-clause-part : goal.returns-in-Err-clause-part
returns-in-Err-clause-part g c = λ rest.
    part_ends _ _ _ _ _ _ _ _ c.in-Err.is
    (turn_part c.args.self.now.limit c.loop-left.self.limit c.args.turn.now.thread c.loop-left.left c.step_on.new.left rest _ c.loop-left.self.state c.step_on.new.self.state _ _ _
    (g.O.Sink.faults c.args.out.now) (g.O.Sink.faults c.loop-left.out) (g.O.Sink.faults c.step_on.new.out) c.step_on.result
    c.loop-left.invariant.ready.limit' c.loop-left.invariant.count c.step_on.ensures.count (c.loop-left.invariant.part rest) c.step_on.ensures.part)

pub loop-left-preserved : goal.loop-left-preserved
loop-left-preserved g c = record {
  part = λ rest.
      part_done _ _ _ _ _ _ _ _ (c.in-Ok-Same.is ∙ ap Ok c.in-Ok-Same.field-0-is)
      (turn_part c.args.self.now.limit c.loop-left.self.limit c.args.turn.now.thread c.loop-left.left c.step_on.new.left rest _ c.loop-left.self.state c.step_on.new.self.state _ _ _
      (g.O.Sink.faults c.args.out.now) (g.O.Sink.faults c.loop-left.out) (g.O.Sink.faults c.step_on.new.out) c.step_on.result
      c.loop-left.invariant.ready.limit' c.loop-left.invariant.count c.step_on.ensures.count (c.loop-left.invariant.part rest) c.step_on.ensures.part);
  ready = subst (λ (l : ℕ). IsReady l c.step_on.new.self) c.loop-left.invariant.ready.limit' c.in-Ok-Same.ensures.ready;
  count = omega (arith, c.loop-left.invariant.count, c.step_on.ensures.count);
}

pub returns-clause-part : goal.returns-clause-part
returns-clause-part g c = λ rest.
    left_as _ _ _ _ _ (no_turn c.args.self.now.limit c.args.turn.now.thread rest c.loop-left.left c.loop-left.self.state c.loop-left-test.false) (c.loop-left.invariant.part rest)
