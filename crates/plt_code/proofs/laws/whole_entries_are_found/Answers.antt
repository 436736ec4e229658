use Rattle.plt_code.proofs.Whole.{whole_entries_are_found}
use Rattle.plt_code.proofs.laws.whole_entries_are_found.Goals as goal

pub returns : goal.returns
returns c = whole_entries_are_found
