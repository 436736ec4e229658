use Rattle.std.proofs.Common.{ap, ◌∙◌}
use Rattle.std.proofs.lemmas.Result.{err_from_is_err_and}
use Rattle.load_sites.specs.parts.Linker.{linkage}
use Rattle.load_model.specs.Linkage.{scope_with}
use Rattle.load_state.specs.Accepted.{IsScoped}
use Rattle.load_plan.proofs.WalkedModules.{is_ready, told_unlinked, first_member}
use Rattle.load_plan.proofs.linking.link.Goals as goal

pub resolve-requires-clause-ready : goal.resolve-requires-clause-ready
resolve-requires-clause-ready g c =
    is_ready _ (rw c.as_slice-2.ensures (c.in_ok-joining.ensures.entered c.in_ok-scope.scope)) (rw c.as_slice-2.ensures c.in_ok-joining.ensures.new) c.requires.few

pub returns-in_err-values-clause-error : goal.returns-in_err-values-clause-error
unfolding linkage
returns-in_err-values-clause-error g c =
    let walk = c.in_ok-joining.ensures.walk in
    let scoped : IsScoped c.args.process.now (g.S.Store.files c.args.store.now) c.args.root.now c.in_ok-joining.field-0.joining c.in_ok-scope.scope = record {
      names = walk.0;
      walk = walk.1;
      scope' = c.in_ok-scope.ensures ∙ ap (scope_with c.args.process.now) (c.as_slice.ensures ∙ walk.2);
    } in
    let p = err_from_is_err_and c.from_residual-in_err-values.result c.from_residual-in_err-values.ensures.1 in
    rw (p.1, p.2)
    (told_unlinked c.args.process.now (g.S.Store.files c.args.store.now) c.args.root.now c.in_ok-joining.field-0.joining c.in_ok-scope.scope _ _ _ scoped
    (rw c.as_slice-2.ensures at c.in_err-values.ensures.error))

pub returns-clause-linked : goal.returns-clause-linked
unfolding linkage
returns-clause-linked g c =
    let walk = c.in_ok-joining.ensures.walk in
    let told = rw c.as_slice-2.ensures at c.in_ok-values.ensures in
    record {
      scoped = record { names = walk.0; walk = walk.1; scope' = c.in_ok-scope.ensures ∙ ap (scope_with c.args.process.now) (c.as_slice.ensures ∙ walk.2) };
      root' = first_member _ _ _ c.as_slice-3.ensures c.in_ok-joining.ensures.some c.in_ok-joining.ensures.root;
      new = c.in_ok-joining.ensures.new;
      filled = told.filled;
      values' = told.values;
      privates' = told.privates;
      wanted' = told.wanted;
    }
