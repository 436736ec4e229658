use Rattle.load_sites.proofs.NearNames.{names_near}
use Rattle.load_sites.proofs.laws.sites_name_near_modules.Goals as goal

pub returns : goal.returns
returns c = names_near
