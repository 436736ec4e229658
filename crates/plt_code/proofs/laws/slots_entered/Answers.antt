use Rattle.plt_code.proofs.Called.{entered}
use Rattle.plt_code.proofs.laws.slots_entered.Goals as goal

pub returns : goal.returns
returns c = entered
