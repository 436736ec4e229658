use Rattle.std.proofs.Common.{ap, ◌∙◌}
use Rattle.symbol_scope.proofs.Finding.{export_in-behind}
use Rattle.symbol_scope.proofs.tables.Tables.export_in.Goals as goal

pub returns : goal.returns
returns c =
    rw (← c.self.view_is)
    ((rw c.deref.ensures.value at c.export_in.ensures) ∙ ap (λ f. f c.args.number) (export_in-behind _ _ _))
