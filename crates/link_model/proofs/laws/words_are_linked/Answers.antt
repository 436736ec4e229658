use Rattle.link_model.proofs.Written.{words_are_linked}
use Rattle.link_model.proofs.laws.words_are_linked.Goals as goal

pub returns : goal.returns
returns c = words_are_linked
