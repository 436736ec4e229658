use Rattle.guest_mem.proofs.Keeping.{read_of-kept, fetch_of-kept, Keeps-then, Keeps-IsMemory}
use Rattle.guest_mem.proofs.laws.kept_is_read.Goals as goal

pub returns-clause-watched : goal.returns-clause-watched
returns-clause-watched c = read_of-kept

pub returns-clause-fetched : goal.returns-clause-fetched
returns-clause-fetched c = fetch_of-kept

pub returns-clause-then : goal.returns-clause-then
returns-clause-then c = Keeps-then

pub returns-clause-whole : goal.returns-clause-whole
returns-clause-whole c = Keeps-IsMemory
