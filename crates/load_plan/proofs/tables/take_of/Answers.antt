use Rattle.std.proofs.Common.{◌≡◌, Some, ◌∙◌}
use Rattle.symbol_scope.specs.Table.{table_of}
use Rattle.load_plan.proofs.tables.take_of.Goals as goal

pub returns-clause-table : goal.returns-clause-table
returns-clause-table c =
    let both : Some c.in-Some.table ≡ Some (table_of c.args.new.now.name c.args.new.now.object) = c.in-Some.ensures.table ∙ c.requires in
    cc
