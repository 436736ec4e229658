use Rattle.load_laws.proofs.NewLoaders.{new_is_consistent_lem}
use Rattle.load_laws.proofs.consistent.new_is_consistent.Goals as goal

pub returns : goal.returns
returns c = new_is_consistent_lem
