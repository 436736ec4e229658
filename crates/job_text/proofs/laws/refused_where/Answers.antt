use Rattle.job_text.proofs.FirstRefused.{is_where, from_where}
use Rattle.job_text.proofs.laws.refused_where.Goals as goal

pub returns : goal.returns
returns c = λ limits lines r. (is_where limits lines r, from_where limits lines r)
