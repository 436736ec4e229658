use Rattle.std.proofs.lemmas.Result.{err_from_is_err_and}
use Rattle.load_laws.proofs.NewLoaders.{new_is_consistent_lem}
use Rattle.mod_load.proofs.ProgramLoads.{loads, refused}
use Rattle.mod_load.proofs.program.load_program.Goals as goal

pub plan_group-requires-clause-consistent : goal.plan_group-requires-clause-consistent
plan_group-requires-clause-consistent g c = new_is_consistent_lem c.args.plan.now c.in_ok-loader.loader.loaded c.in_ok-loader.ensures

pub returns-in_err-group-clause-refused : goal.returns-in_err-group-clause-refused
returns-in_err-group-clause-refused g c =
    let p = err_from_is_err_and c.from_residual-in_err-group.result c.from_residual-in_err-group.ensures.1 in
    rw (p.1, p.2)
    (refused (g.S.Store.files c.args.store.now) c.args.plan.now c.args.program.now c.in_ok-loader.loader.loaded _ _ _ c.in_ok-loader.ensures c.in_err-group.ensures.error)

pub returns-clause-loads : goal.returns-clause-loads
returns-clause-loads g c =
    loads (g.S.Store.files c.args.store.now) c.args.plan.now c.args.program.now c.in_ok-loader.loader.loaded _ _ c.in_ok-group.group
    c.in_ok-loader.ensures c.in_ok-group.ensures.plan c.in_ok-group.ensures.stays c.commit.ensures.committed
