use Rattle.known_runs.proofs.loads.opens.first_of_two_plans.Goals as goal

pub commit-requires-clause-ready : goal.commit-requires-clause-ready
commit-requires-clause-ready g c = c.in_ok-root.ensures.earlier c.in_ok-first.first c.in_ok-first.ensures.ready
