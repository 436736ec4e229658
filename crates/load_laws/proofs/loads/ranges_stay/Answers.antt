use Rattle.load_laws.proofs.RangesAfter.{ranges_stay_lem}
use Rattle.load_laws.proofs.loads.ranges_stay.Goals as goal

pub returns : goal.returns
returns c = ranges_stay_lem
