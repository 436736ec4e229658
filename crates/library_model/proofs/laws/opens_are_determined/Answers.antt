use Rattle.library_model.proofs.Once as lemma
use Rattle.library_model.proofs.laws.opens_are_determined.Goals as goal

pub returns : goal.returns
returns c = lemma.opens_once
