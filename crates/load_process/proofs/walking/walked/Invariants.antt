use Rattle.std.proofs.Common.{◌≡◌, ◌≤◌, ◌-◌, All}
use Rattle.load_process.specs.parts.TakenObjects.{IsTaken}
use Rattle.symbol_scope.specs.declared.tables.TheConstants.{MAX_MODULES}
use Rattle.load_model.specs.declared.module.Joining.{Joining}
use Rattle.load_process.specs.parts.WalkSteps.{IsNumbered}
use Rattle.load_process.proofs.walking.walked.Given as goal

-- the first names were looked at
abbrev pub invariant-loop-steps : goal.invariant-loop-steps
invariant-loop-steps g l = record {
  numbered : IsNumbered l.process (g.S.Store.files l.fn.store) l.root l.steps.next l.steps.joining l.steps.names.keys l.steps.members;
  sound : All (λ (j : Joining). IsTaken j.object) l.steps.joining;
  files : g.S.Store.files l.store ≡ g.S.Store.files l.fn.store;
  count : g.S.Store.faults l.fn.store ≤ g.S.Store.faults l.store;
}

abbrev pub decreases-loop-steps : goal.decreases-loop-steps
decreases-loop-steps g l = MAX_MODULES - l.steps.next
