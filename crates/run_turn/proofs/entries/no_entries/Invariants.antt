use Rattle.std.proofs.Common.{◌≡◌, replicate, None}
use Rattle.run_turn.proofs.entries.no_entries.Given as goal

-- the places so far
abbrev pub invariant-loop : goal.invariant-loop
invariant-loop l = l.places.items ≡ replicate l.counter None
