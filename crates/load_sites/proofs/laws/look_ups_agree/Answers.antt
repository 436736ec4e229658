use Rattle.load_sites.proofs.LookUpsAgree.{mean_the_same}
use Rattle.load_sites.proofs.laws.look_ups_agree.Goals as goal

pub returns : goal.returns
returns c = mean_the_same
