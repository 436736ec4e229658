use Rattle.elf_model.proofs.FilledSites.{slots_more, slots_all}
use Rattle.elf_model.proofs.filled.push_slots.Goals as goal

pub loop-k-preserved : goal.loop-k-preserved
loop-k-preserved c = slots_more c.args.slots.now c.loop-k.k _ _ _ _ c.loop-k-test.true c.in_ok-push.ensures c.loop-k.invariant

pub returns : goal.returns
returns c = slots_all c.args.slots.now c.loop-k.k _ _ c.loop-k-test.false c.loop-k.invariant
