use Rattle.a32_machine.proofs.Arrivals.{lazy_place_arrives}
use Rattle.a32_machine.proofs.laws.lazy_place_arrives.Goals as goal

pub returns : goal.returns
returns c = lazy_place_arrives
