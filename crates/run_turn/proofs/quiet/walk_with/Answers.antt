use Rattle.std.proofs.Common.{rules}
use Rattle.run_turn.proofs.QuietCalls.{rooms_below, stays}
use Rattle.run_turn.proofs.quiet.walk_with.Goals as goal

pub count_steps-requires : goal.count_steps-requires
count_steps-requires c = rooms_below c.cut-walk.result.quiet c.room_of-room.result c.args.thread.now.calls c.cut-walk.ensures.quiet (search rules)

pub returns-clause-stay : goal.returns-clause-stay
returns-clause-stay c = stays c.cut-walk.result.quiet c.args.thread.now.calls (rooms_below c.cut-walk.result.quiet c.room_of-room.result c.args.thread.now.calls c.cut-walk.ensures.quiet (search rules))
