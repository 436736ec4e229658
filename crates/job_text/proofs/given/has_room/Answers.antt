use Rattle.std.proofs.Common.{sym, arith}
use Rattle.job_text.proofs.JobValues.{no_room}
use Rattle.job_text.proofs.given.has_room.Goals as goal

pub returns-then-slots-memory : goal.returns-then-slots-memory
returns-then-slots-memory c = sym (no_room c.args.plan.now (omega arith))
