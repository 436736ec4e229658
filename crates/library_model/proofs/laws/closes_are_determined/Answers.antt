use Rattle.library_model.proofs.Once as lemma
use Rattle.library_model.proofs.laws.closes_are_determined.Goals as goal

pub returns : goal.returns
returns c = lemma.closes_once
