use Rattle.load_image.proofs.HashedEntries.{entered_more}
use Rattle.load_image.proofs.hashed.enter_all.Goals as goal

pub loop-entry-preserved : goal.loop-entry-preserved
loop-entry-preserved c = λ q. entered_more c.args.entries.now _ (record { «module» = 0; value = 0 }, 0) q _ _ _ c.loop-entry-test.true (c.in_ok-enter.ensures q) (c.loop-entry.invariant q)
