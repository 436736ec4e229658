use Rattle.load_memory.specs.parts.PlacingSteps.{AreFilled}
use Rattle.load_memory.proofs.segments.write_parts.Given as goal

-- the segments so far are written
abbrev pub invariant-loop-k : goal.invariant-loop-k
invariant-loop-k l = AreFilled l.load_map l.parts l.k l.fn.guest l.guest
