use Rattle.plt_code.proofs.Called.{one_slot}
use Rattle.plt_code.proofs.laws.one_slot.Goals as goal

pub returns : goal.returns
returns c = one_slot
