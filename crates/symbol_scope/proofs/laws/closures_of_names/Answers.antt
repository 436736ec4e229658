use Rattle.std.specs.Str.{bytes_eq}
use Rattle.std.proofs.lemmas.Slice.Eq.{bytes_eq-Decides}
use Rattle.symbol_scope.proofs.Closed.{closures}
use Rattle.symbol_scope.proofs.laws.closures_of_names.Goals as goal

pub returns : goal.returns
returns c = closures bytes_eq bytes_eq-Decides
