use Rattle.load_laws.proofs.DescriptorsAfter.{descriptors_stay_lem}
use Rattle.load_laws.proofs.descriptors.descriptors_stay.Goals as goal

pub returns : goal.returns
returns c = descriptors_stay_lem
