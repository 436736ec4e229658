use Rattle.link_means.proofs.Staying.{words_stay}
use Rattle.link_means.proofs.laws.words_stay.Goals as goal

pub returns : goal.returns
returns c = words_stay
