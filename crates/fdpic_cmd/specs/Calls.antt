-- The run of a job that came to its end, and what its journal says of calls.
use Rattle.std.specs.Prelude.{ℕ, List, Option}
use Rattle.fd_base.specs.Fetched.{Files}
use Rattle.fd_base.specs.Grown.{Grew}
use Rattle.run_model.specs.declared.job.Job.{Job}
use Rattle.run_laws.specs.Journal.{IsJournalOf}
use Rattle.run_model.specs.Courses.{Course}
use Rattle.run_model.specs.Report.{report_of}
use Rattle.proc_run.specs.RunEnds.{IsRun}
use Rattle.fdpic_cmd.specs.declared.status.Status.{Status}
use Rattle.fdpic_cmd.specs.Jobs.{IsJobFile}
use Rattle.fdpic_cmd.specs.Run.{IsStatusOf}

-- The file is a job, which was run to its end; out has gained the run's report, and the report is a journal, by which calls
-- through entries of the procedure linkage table arrive.
pub record RanWithCalls (file : List ℕ) (out later : Option (List ℕ)) (status : Status) (told : Files) : Type 0 where
  pub job : Job
  pub is : IsJobFile told file job
  pub course : Course
  pub run : IsRun job told course
  pub status' : IsStatusOf course.answer status
  pub grew : Grew out later (report_of course.events)
  pub journal : IsJournalOf job told course run
