use Rattle.guest_mem.proofs.Writing.{read_of-written}
use Rattle.guest_mem.proofs.laws.written_is_read.Goals as goal

pub returns : goal.returns
returns c = read_of-written
