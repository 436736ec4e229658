use Rattle.load_removal.proofs.OthersValid.{others_valid_lem}
use Rattle.load_removal.proofs.laws.others_are_valid.Goals as goal

pub returns : goal.returns
returns c = others_valid_lem
