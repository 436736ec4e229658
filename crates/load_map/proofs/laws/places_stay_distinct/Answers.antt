use Rattle.load_map.proofs.Holding.{distinct}
use Rattle.load_map.proofs.laws.places_stay_distinct.Goals as goal

pub returns : goal.returns
returns c = distinct
