use Rattle.std.proofs.Common.{◌≡◌, map, take}
use Rattle.link_places.proofs.lying.pieces.Given as goal

abbrev pub invariant-loop-one : goal.invariant-loop-one
invariant-loop-one l = l.pieces ≡ map (λ n. n.piece) (take l.one-index l.numbered)
