-- What holds of the runs of jobs.
use Rattle.std.specs.Prelude.{◌^◌, ◌<◌}
use Rattle.fd_base.specs.Fetched.{Files}
use Rattle.run_model.specs.declared.job.Job.{Job}
use Rattle.run_model.specs.Courses.{Course}
use Rattle.proc_run.specs.RunEnds.{IsRun}
use Rattle.run_laws.specs.Journal.{IsJournalOf}

-- The course of each run of a job, in a memory of fewer than 2^32 bytes, is its journal.
abbrev pub RunsHaveJournals : Type 0
RunsHaveJournals = (job : Job) (told : Files) (c : Course) → job.plan.memory < 2 ^ 32 → (run : IsRun job told c) → IsJournalOf job told c run
