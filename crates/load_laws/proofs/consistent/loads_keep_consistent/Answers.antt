use Rattle.load_laws.proofs.ConsistentAfter.{loads_keep_lem}
use Rattle.load_laws.proofs.consistent.loads_keep_consistent.Goals as goal

pub returns : goal.returns
returns c = loads_keep_lem
