use Rattle.load_model.specs.Joined.{global_after}
use Rattle.load_process.specs.parts.LoadedProcess.{scope_after}
use Rattle.load_process.proofs.WalkFacts.{facts_of}
use Rattle.load_process.proofs.JoinKeeps.{left}
use Rattle.load_process.proofs.laws.loads_leave_scopes.Goals as goal

pub returns : goal.returns
returns c = λ p files root joining names asked valid walk.
    left p joining names (facts_of p files root joining names walk) valid asked.lazy (scope_after p joining names) (global_after p asked.global (scope_after p joining names))
