use Rattle.link_model.proofs.Naming.{names_are_numbered}
use Rattle.link_model.proofs.laws.names_are_numbered.Goals as goal

pub returns : goal.returns
returns c = names_are_numbered
