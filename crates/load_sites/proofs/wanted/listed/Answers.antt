use Rattle.load_sites.proofs.SameFunctions.{listed_more}
use Rattle.load_sites.proofs.wanted.listed.Goals as goal

pub loop-entry-preserved : goal.loop-entry-preserved
loop-entry-preserved c = λ f.
    rw c.in_ok-add_listed.ensures (listed_more c.loop-entry.funcs c.args.entries.now c.loop-entry.entry-index _ c.loop-entry-test.true c.loop-entry.invariant f)
