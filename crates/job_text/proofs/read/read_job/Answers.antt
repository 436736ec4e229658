use Rattle.job_text.proofs.ExactAnswers.{answer_fits, answer_sound}
use Rattle.job_text.proofs.read.read_job.Goals as goal

pub returns-clause-fits : goal.returns-clause-fits
returns-clause-fits c = answer_fits c.args.bytes.now c.job.result c.job.ensures

pub returns-clause-sound : goal.returns-clause-sound
returns-clause-sound c = answer_sound c.args.bytes.now c.job.result c.job.ensures
