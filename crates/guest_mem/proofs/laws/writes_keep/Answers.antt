use Rattle.guest_mem.proofs.Writing.{write_of-keeps, write_of-alters}
use Rattle.guest_mem.proofs.laws.writes_keep.Goals as goal

pub returns-clause-keeps : goal.returns-clause-keeps
returns-clause-keeps c = write_of-keeps

pub returns-clause-alters : goal.returns-clause-alters
returns-clause-alters c = write_of-alters
