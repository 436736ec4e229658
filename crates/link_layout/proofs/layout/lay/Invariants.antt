use Rattle.std.proofs.Common.{◌≡◌, ◌^◌, ◌≤◌, take}
use Rattle.std.specs.Prelude.{max}
use Rattle.link_layout.specs.Layout.{places, end_of}
use Rattle.link_layout.proofs.layout.lay.Given as goal

abbrev pub invariant-loop-piece : goal.invariant-loop-piece
invariant-loop-piece l =
    (l.places ≡ places l.fn.from (take l.piece-index l.pieces)) × (l.end ≡ end_of l.fn.from (take l.piece-index l.pieces)) × (l.end ≤ max l.fn.from (2 ^ 60))
