use Rattle.run_laws.proofs.CourseJournals.{runs_have_journals_lem}
use Rattle.run_laws.proofs.journals.runs_have_journals.Goals as goal

pub returns : goal.returns
returns c = runs_have_journals_lem
