use Rattle.load_sites.proofs.SlotsLead.{places_follow}
use Rattle.load_sites.proofs.laws.placed_values_have_places.Goals as goal

pub returns : goal.returns
returns c = places_follow
