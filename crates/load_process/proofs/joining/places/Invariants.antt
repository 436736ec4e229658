use Rattle.std.proofs.Common.{◌≡◌, None, replicate}
use Rattle.load_process.proofs.joining.places.Given as goal

-- the places so far
abbrev pub invariant-loop : goal.invariant-loop
invariant-loop g l = l.places ≡ replicate l.counter None
