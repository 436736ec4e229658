use Rattle.run_model.specs.declared.thread.Turned.TheVariants.{Next, Yield, ThreadDone}
use Rattle.proc_run.proofs.TurnEnds.{goes_of, steps_of}
use Rattle.proc_run.proofs.RunParts.{never, part_put}
use Rattle.proc_run.proofs.process.Process.step.Goals as goal

pub returns-in-Next-clause-steps : goal.returns-in-Next-clause-steps
returns-in-Next-clause-steps g c = steps_of c.args.self.now c.args.thread c.one_turn.new.self Next _ _ c.requires.lives c.in-Next.ensures.answer

pub returns-in-Next-clause-lives : goal.returns-in-Next-clause-lives
returns-in-Next-clause-lives g c = goes_of c.args.self.now c.args.thread c.one_turn.new.self Next _ _ c.requires.lives c.in-Next.ensures.answer

pub returns-in-Yield-clause-steps : goal.returns-in-Yield-clause-steps
returns-in-Yield-clause-steps g c = steps_of c.args.self.now c.args.thread c.one_turn.new.self Yield _ _ c.requires.lives c.in-Yield.ensures.answer

pub returns-in-ThreadDone-clause-steps : goal.returns-in-ThreadDone-clause-steps
returns-in-ThreadDone-clause-steps g c = steps_of c.args.self.now c.args.thread c.one_turn.new.self ThreadDone _ _ c.requires.lives c.in-ThreadDone.ensures.answer

pub returns-in-StoreFault-clause-part : goal.returns-in-StoreFault-clause-part
returns-in-StoreFault-clause-part g c =
    λ same others. never c.args.self.now c.args.thread c.one_turn.new.self same others c.requires.ready.none _ _ c.requires.lives c.in-StoreFault.ensures.answer

pub returns-in-SinkFault-clause-part : goal.returns-in-SinkFault-clause-part
returns-in-SinkFault-clause-part g c = λ same others. (
  c.in-SinkFault.ensures.answer.0,
  part_put c.args.self.now c.args.thread c.one_turn.new.self same others c.requires.ready.none _ _ c.in-SinkFault.ensures.answer.1,
)

pub returns-in-Memory-clause-part : goal.returns-in-Memory-clause-part
returns-in-Memory-clause-part g c =
    λ same others. part_put c.args.self.now c.args.thread c.one_turn.new.self same others c.requires.ready.none _ _ c.in-Memory.ensures.answer
