use Rattle.load_laws.proofs.ConsistentAfter.{addresses_stay_lem}
use Rattle.load_laws.proofs.descriptors.addresses_stay.Goals as goal

pub returns : goal.returns
returns c = addresses_stay_lem
