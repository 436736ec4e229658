use Rattle.link_loads.proofs.Modules.{words_stand}
use Rattle.link_loads.proofs.laws.words_stand.Goals as goal

pub returns : goal.returns
returns c = words_stand
