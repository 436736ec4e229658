use Rattle.plt_code.proofs.Slots.{slots_more}
use Rattle.plt_code.proofs.table.slot_table.Goals as goal

pub loop-k-preserved : goal.loop-k-preserved
loop-k-preserved c =
    slots_more c.args.got c.args.slots.now c.loop-k.k _ c.loop-k.table c.insert.new.self c.loop-k-test.true c.in_ok-insert.ensures.updates.0 c.loop-k.invariant
