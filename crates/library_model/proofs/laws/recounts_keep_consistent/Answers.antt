use Rattle.library_model.proofs.RecountedLoaders as lemma
use Rattle.library_model.proofs.laws.recounts_keep_consistent.Goals as goal

pub returns : goal.returns
returns c = lemma.recounts_keep_consistent
