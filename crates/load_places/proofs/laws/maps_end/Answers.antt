use Rattle.load_places.proofs.SegmentEnds.{maps_end_lem}
use Rattle.load_places.proofs.laws.maps_end.Goals as goal

pub returns : goal.returns
returns c = maps_end_lem
