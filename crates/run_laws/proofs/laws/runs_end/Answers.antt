use Rattle.run_laws.proofs.CoursesEnd.{every_run_ends}
use Rattle.run_laws.proofs.laws.runs_end.Goals as goal

pub returns : goal.returns
returns c = every_run_ends
