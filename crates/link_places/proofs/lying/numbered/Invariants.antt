use Rattle.std.proofs.Common.{◌≡◌, map, take}
use Rattle.link_places.specs.parts.Lying.{numbered_of}
use Rattle.link_places.proofs.lying.numbered.Given as goal

abbrev pub invariant-loop-head : goal.invariant-loop-head
invariant-loop-head l = l.numbered ≡ map numbered_of (take l.head-index l.heads)
