use Rattle.mod_load.proofs.EnteredAddresses.{given_more, next_fresh, no_entry}
use Rattle.mod_load.proofs.descriptors.give_all.Goals as goal

pub give-requires-clause-fresh : goal.give-requires-clause-fresh
give-requires-clause-fresh c = next_fresh c.args.given.now c.args.pool.now c.loop-entry.pool c.loop-entry.entry-index no_entry c.requires c.loop-entry-test.true c.loop-entry.invariant

pub loop-entry-preserved : goal.loop-entry-preserved
loop-entry-preserved c =
    given_more c.args.given.now c.args.pool.now c.loop-entry.pool c.loop-entry.entry-index no_entry c.requires c.loop-entry-test.true c.loop-entry.invariant c.give.new.pool c.give.ensures.entered
    c.give.ensures.free
