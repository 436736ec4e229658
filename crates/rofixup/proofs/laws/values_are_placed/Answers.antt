use Rattle.rofixup.proofs.Places.{values_placed}
use Rattle.rofixup.proofs.laws.values_are_placed.Goals as goal

pub returns : goal.returns
returns c = values_placed
