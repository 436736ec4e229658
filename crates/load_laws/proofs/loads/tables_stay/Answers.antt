use Rattle.load_laws.proofs.TablesAfter.{tables_stay_lem}
use Rattle.load_laws.proofs.loads.tables_stay.Goals as goal

pub returns : goal.returns
returns c = tables_stay_lem
