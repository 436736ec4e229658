use Rattle.std.proofs.Common.{◌≡◌, ◌++◌, take, drop}
use Rattle.placement.specs.Space.{held_with}
use Rattle.placement.proofs.ranges.place_of.Given as goal

-- the ranges so far start below it
abbrev pub invariant-loop-i : goal.invariant-loop-i
invariant-loop-i l = held_with l.range l.held ≡ take l.i l.held ++ held_with l.range (drop l.i l.held)
