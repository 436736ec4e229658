use Rattle.proc_run.proofs.TurnEnds.{turn_answers}
use Rattle.proc_run.proofs.process.Process.one_turn.Goals as goal

pub returns-in-Ok-clause-answer : goal.returns-in-Ok-clause-answer
returns-in-Ok-clause-answer g c =
    turn_answers c.args.self.now c.args.thread c.put_turn.new.self _ _ _ _ c.in-Ok.answer c.requires.lives c.in-Ok.ensures.answer
