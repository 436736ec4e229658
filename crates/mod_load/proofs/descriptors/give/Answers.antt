use Rattle.mod_load.proofs.EnteredAddresses.{gave}
use Rattle.mod_load.proofs.descriptors.give.Goals as goal

pub returns-clause-entered : goal.returns-clause-entered
returns-clause-entered c = λ addr first.
    gave c.args.pool.now c.ensure.new.self c.args.f.now c.in-Ok.field-0 addr c.requires.fresh first c.in-Ok.ensures.address c.in-Ok.ensures.given
