use Rattle.std.proofs.Common.{ℕ, subst, arith}
use Rattle.proc_run.specs.parts.ReadyProcess.{IsReady}
use Rattle.proc_run.proofs.RunParts.{part_done, part_ends, schedule_over, schedule_part}
use Rattle.proc_run.proofs.process.Process.run_schedule.Goals as goal

pub returns-in-Err-clause-part : goal.returns-in-Err-clause-part
returns-in-Err-clause-part g c =
    part_ends _ _ _ _ _ _ _ _ c.in-Err.is
    (schedule_part c.args.self.now.limit c.loop-turn.self.limit c.args.turns.now c.loop-turn.turn-index _ _ c.loop-turn.self.state c.run_turn.new.self.state _ _ _
    (g.O.Sink.faults c.args.out.now) (g.O.Sink.faults c.loop-turn.out) (g.O.Sink.faults c.run_turn.new.out) c.run_turn.result
    c.loop-turn-test.true c.loop-turn.invariant.ready.limit' c.loop-turn.invariant.count c.run_turn.ensures.count c.loop-turn.invariant.part c.run_turn.ensures.part)

pub loop-turn-preserved : goal.loop-turn-preserved
loop-turn-preserved g c = record {
  part =
      part_done _ _ _ _ _ _ _ _ c.in-Ok.is
      (schedule_part c.args.self.now.limit c.loop-turn.self.limit c.args.turns.now c.loop-turn.turn-index _ _ c.loop-turn.self.state c.run_turn.new.self.state _ _ _
      (g.O.Sink.faults c.args.out.now) (g.O.Sink.faults c.loop-turn.out) (g.O.Sink.faults c.run_turn.new.out) c.run_turn.result
      c.loop-turn-test.true c.loop-turn.invariant.ready.limit' c.loop-turn.invariant.count c.run_turn.ensures.count c.loop-turn.invariant.part c.run_turn.ensures.part);
  ready = subst (λ (l : ℕ). IsReady l c.run_turn.new.self) c.loop-turn.invariant.ready.limit' c.in-Ok.ensures.ready;
  count = omega (arith, c.loop-turn.invariant.count, c.run_turn.ensures.count);
}

pub returns-clause-part : goal.returns-clause-part
returns-clause-part g c =
    schedule_over c.args.self.now.limit c.args.turns.now c.loop-turn.turn-index _ c.loop-turn.self.state _ _ c.loop-turn-test.false c.loop-turn.invariant.part
