use Rattle.load_laws.proofs.AdoptedDescriptors.{adoptions_free_lem}
use Rattle.load_laws.proofs.descriptors.adoptions_are_free.Goals as goal

pub returns : goal.returns
returns c = adoptions_free_lem
