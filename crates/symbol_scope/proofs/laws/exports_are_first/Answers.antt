use Rattle.symbol_scope.proofs.Finding.{exports_first}
use Rattle.symbol_scope.proofs.laws.exports_are_first.Goals as goal

pub returns : goal.returns
returns c = exports_first
