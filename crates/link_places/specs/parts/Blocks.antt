-- Common blocks, by the numbers of their names.
use Rattle.std.specs.Prelude.{Option, Some, None}
use Rattle.link_model.specs.declared.target.Spot.{Spot}
use Rattle.link_model.specs.declared.target.Spot.TheVariants.{Common}
use Rattle.link_model.specs.declared.target.Target.{Target}
use Rattle.link_model.specs.Places.{block_piece}
use Rattle.link_places.specs.declared.lying.NumberedPiece.{NumberedPiece}

abbrev pub block_at : Spot → Target → Option NumberedPiece
block_at (Common k) t = Some (record { number = k; piece = block_piece t })
block_at spot t = None

abbrev pub block_of : Target → Option NumberedPiece
block_of t = block_at t.spot t
