use Rattle.run_turn.proofs.QuietWalks.{cut_off, whole}
use Rattle.run_turn.proofs.quiet.cut.Goals as goal

pub returns-then-walk-room-clause-walked : goal.returns-then-walk-room-clause-walked
returns-then-walk-room-clause-walked c = λ p maps most old new below walked. whole p maps c.args.room most below old new c.args.walk.quiet c.args.walk.last walked c.if-walk-room.true

pub returns-clause-walked : goal.returns-clause-walked
returns-clause-walked c = λ p maps most old new below walked. cut_off p maps c.args.room most below old new c.args.walk.quiet c.args.walk.last walked c.if-walk-room.false
