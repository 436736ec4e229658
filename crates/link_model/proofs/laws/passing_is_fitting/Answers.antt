use Rattle.link_model.proofs.Passed.{passing_is_fitting}
use Rattle.link_model.proofs.laws.passing_is_fitting.Goals as goal

pub returns : goal.returns
returns c = passing_is_fitting
