use Rattle.mod_load.proofs.EnteredAddresses.{adopted_more, next_no_slot, next_unused, no_entry}
use Rattle.mod_load.proofs.descriptors.adopt_all.Goals as goal

pub adopt-requires-clause-unused : goal.adopt-requires-clause-unused
adopt-requires-clause-unused c = next_unused c.args.adopted.now c.args.pool.now c.loop-entry.pool c.loop-entry.entry-index no_entry c.requires.free c.loop-entry-test.true c.loop-entry.invariant

pub adopt-requires-clause-no_slot : goal.adopt-requires-clause-no_slot
adopt-requires-clause-no_slot c = next_no_slot c.args.adopted.now c.args.pool.now c.loop-entry.pool c.loop-entry.entry-index no_entry c.requires.free c.loop-entry-test.true c.loop-entry.invariant

pub loop-entry-preserved : goal.loop-entry-preserved
loop-entry-preserved c =
    adopted_more c.args.adopted.now c.args.pool.now c.loop-entry.pool c.loop-entry.entry-index no_entry c.requires.free c.loop-entry-test.true c.loop-entry.invariant c.adopt.new.pool c.adopt.ensures.entered
    c.adopt.ensures.free c.adopt.ensures.room
