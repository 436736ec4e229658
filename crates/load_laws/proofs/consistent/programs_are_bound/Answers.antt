use Rattle.load_laws.proofs.BoundPrograms.{programs_bound_lem}
use Rattle.load_laws.proofs.consistent.programs_are_bound.Goals as goal

pub returns : goal.returns
returns c = programs_bound_lem
