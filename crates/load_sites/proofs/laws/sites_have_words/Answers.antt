use Rattle.load_sites.proofs.SiteEnds.{sites_end}
use Rattle.load_sites.proofs.laws.sites_have_words.Goals as goal

pub returns : goal.returns
returns c = sites_end
