use Rattle.std.proofs.Common.{All, take}
use Rattle.placement.specs.Legal.{Apart}
use Rattle.placement.proofs.search.is_apart.Given as goal

-- no range so far is met
abbrev pub invariant-loop-range : goal.invariant-loop-range
invariant-loop-range l = All (Apart l.at l.len) (take l.range-index l.held)
