use Rattle.load_image.proofs.StandingWords.{site_stands, header_stands, others_stay}
use Rattle.load_image.proofs.laws.sites_hold_their_words.Goals as goal

pub returns : goal.returns
returns c = record { sites = site_stands; header = header_stands; others = others_stay }
