-- What an answer says of its job.
use Rattle.std.proofs.Common.{ℕ, List, Result, Ok, Err}
use Rattle.std.specs.Prelude.{IfOk}
use Rattle.fd_base.specs.Lines.{lines_of}
use Rattle.load_model.specs.Plan.{Fits}
use Rattle.run_model.specs.declared.job.Job.{Job}
use Rattle.job_text.specs.Format.{first_format}
use Rattle.job_text.specs.declared.refusal.JobErr.{JobErr}
use Rattle.job_text.specs.parts.Answers.{Answers}
use Rattle.job_text.specs.Job.{job_of}
use Rattle.job_text.specs.parts.Sound.{IsSound}
use Rattle.job_text.proofs.SoundJobs.{job_sound}
use Rattle.job_text.proofs.JobValues.{job_fits}

pub answer_fits : (bytes : List ℕ) (answer : Result Job JobErr) → Answers answer (job_of first_format (lines_of bytes)) → IfOk answer (λ job. Fits job.plan)
answer_fits bytes (Ok job) is = job_fits first_format (lines_of bytes) job is
answer_fits bytes (Err e) is = tt

pub answer_sound : (bytes : List ℕ) (answer : Result Job JobErr) → Answers answer (job_of first_format (lines_of bytes)) → IfOk answer (IsSound first_format)
answer_sound bytes (Ok job) is = job_sound (lines_of bytes) job is
answer_sound bytes (Err e) is = tt
