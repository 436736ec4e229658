use Rattle.plt_code.proofs.Resolved.{entries_stand}
use Rattle.plt_code.proofs.laws.entries_stand.Goals as goal

pub returns : goal.returns
returns c = entries_stand
