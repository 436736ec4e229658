use Rattle.std.proofs.Common.{ℕ, ◌<◌, get_or}
use Rattle.link_places.specs.declared.lying.NumberedPiece.{NumberedPiece}
use Rattle.link_places.proofs.blocks.count_of.Given as goal

abbrev pub invariant-loop-one : goal.invariant-loop-one
invariant-loop-one l = (k : ℕ) (d : NumberedPiece) → k < l.one-index → (get_or l.numbered k d).number < l.count
