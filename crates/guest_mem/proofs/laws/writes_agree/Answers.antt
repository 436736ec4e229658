use Rattle.guest_mem.proofs.Writing.{write_of-alike, with_bytes-change}
use Rattle.guest_mem.proofs.laws.writes_agree.Goals as goal

pub returns-clause-answer : goal.returns-clause-answer
returns-clause-answer c = write_of-alike

pub returns-clause-bytes : goal.returns-clause-bytes
returns-clause-bytes c = with_bytes-change
