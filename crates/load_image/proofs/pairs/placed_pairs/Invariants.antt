use Rattle.std.proofs.Common.{◌≡◌, take}
use Rattle.load_image.specs.Places.{placed_pairs_of}
use Rattle.load_image.proofs.pairs.placed_pairs.Given as goal

-- the pairs so far
abbrev pub invariant-loop-pair : goal.invariant-loop-pair
invariant-loop-pair l = l.placed_at ≡ placed_pairs_of l.maps (take l.pair-index l.pairs)
