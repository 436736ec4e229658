use Rattle.fd_base.specs.Lines.{lines_of}
use Rattle.job_text.proofs.SoundJobs.{job_sound}
use Rattle.job_text.proofs.laws.sound_job.Goals as goal

pub returns : goal.returns
returns c = λ bytes job is. job_sound (lines_of bytes) job is
