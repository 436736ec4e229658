use Rattle.load_removal.proofs.OthersValid.{others_valid_lem}
use Rattle.library_model.proofs.Valid as lemma
use Rattle.library_model.proofs.laws.steps_keep_valid.Goals as goal

pub returns : goal.returns
returns c = lemma.steps_keep_valid others_valid_lem
