use Rattle.load_state.specs.Consistent.{IsConsistent}
use Rattle.known_runs.proofs.loads.opens.open_all.Given as goal

-- the loader is consistent after each open
abbrev pub invariant-loop-next : goal.invariant-loop-next
invariant-loop-next g l = IsConsistent l.loader.loaded
