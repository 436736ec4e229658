use Rattle.library_model.proofs.Held as lemma
use Rattle.library_model.proofs.laws.steps_keep_held.Goals as goal

pub returns : goal.returns
returns c = lemma.steps_keep_held
