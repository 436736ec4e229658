use Rattle.plt_code.proofs.Resolved.{lazy_calls_stand}
use Rattle.plt_code.proofs.laws.lazy_calls_stand.Goals as goal

pub returns : goal.returns
returns c = lazy_calls_stand
