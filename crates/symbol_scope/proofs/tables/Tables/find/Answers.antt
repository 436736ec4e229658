use Rattle.std.proofs.Common.{ap, ◌∙◌}
use Rattle.symbol_scope.specs.Definition.{first_definition}
use Rattle.symbol_scope.proofs.Finding.{export_in-behind, none_exactly}
use Rattle.symbol_scope.proofs.tables.Tables.find.Goals as goal

pub returns-clause-found : goal.returns-clause-found
returns-clause-found c =
    rw (← c.self.view_is)
    ((rw (c.deref.ensures.value, c.as_slice.ensures) at c.found_in.ensures) ∙ ap (λ f. first_definition f c.args.scope.now) (export_in-behind _ _ _))

pub returns-clause-none : goal.returns-clause-none
returns-clause-none c = none_exactly _ _ _ (returns-clause-found c)
