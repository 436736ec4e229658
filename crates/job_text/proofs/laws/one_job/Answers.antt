use Rattle.job_text.proofs.UniqueJobs as unique
use Rattle.job_text.proofs.laws.one_job.Goals as goal

pub returns : goal.returns
returns c = record { same = unique.same; first = unique.first; exclusive = unique.exclusive; either = unique.either }
