use Rattle.std.proofs.Common.{subst, [], ◌∷◌}
use Rattle.std.specs.Prelude.{nat_eq}
use Rattle.symbol_scope.specs.Closure.{IsClosure}
use Rattle.symbol_scope.proofs.Finding.{needs-behind}
use Rattle.symbol_scope.proofs.tables.Tables.closure.Goals as goal

pub returns : goal.returns
returns c =
    rw (c.from_vec.ensures, ← c.self.view_is)
    (subst (λ f. IsClosure nat_eq f (c.args.root ∷ []) c.in_ok-members.members.items) (needs-behind _ _) (rw c.deref.ensures.value at c.in_ok-members.ensures))
