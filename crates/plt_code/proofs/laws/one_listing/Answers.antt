use Rattle.plt_code.proofs.Rising.{one_listing}
use Rattle.plt_code.proofs.laws.one_listing.Goals as goal

pub returns : goal.returns
returns c = one_listing
