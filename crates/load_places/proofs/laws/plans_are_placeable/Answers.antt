use Rattle.load_places.proofs.PlansPlaceable.{placeable_lem}
use Rattle.load_places.proofs.laws.plans_are_placeable.Goals as goal

pub returns : goal.returns
returns c = placeable_lem
