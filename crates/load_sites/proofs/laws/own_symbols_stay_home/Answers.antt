use Rattle.load_sites.proofs.LookUpsAgree.{stays_home}
use Rattle.load_sites.proofs.laws.own_symbols_stay_home.Goals as goal

pub returns : goal.returns
returns c = stays_home
