use Rattle.std.specs.Prelude.{nat_eq}
use Rattle.std.proofs.lemmas.Bool.Decides.{Decides-eqb}
use Rattle.symbol_scope.proofs.Closed.{closures}
use Rattle.symbol_scope.proofs.laws.closures_of_numbers.Goals as goal

pub returns : goal.returns
returns c = closures nat_eq Decides-eqb
