use Rattle.placed_code.proofs.ModulesPlaced.{consistent_are_placed}
use Rattle.placed_code.proofs.laws.consistent_are_placed.Goals as goal

pub returns : goal.returns
returns c = consistent_are_placed
