use Rattle.load_map.proofs.Holding.{whole}
use Rattle.load_map.proofs.laws.segments_stay_whole.Goals as goal

pub returns : goal.returns
returns c = whole
