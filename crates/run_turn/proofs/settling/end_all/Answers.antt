use Rattle.std.proofs.Common.{◌∙◌, None}
use Rattle.std.proofs.lemmas.List.{length-set}
use Rattle.run_turn.proofs.EmptiedPlaces.{emptied_more, emptied_in_progress}
use Rattle.run_turn.proofs.settling.end_all.Goals as goal

pub loop-i-preserved : goal.loop-i-preserved
loop-i-preserved c = record {
  emptied = emptied_more c.args.threads.now c.loop-i.threads c.loop-i.i c.loop-i-test.true c.loop-i.invariant.emptied;
  size = length-set c.loop-i.threads c.loop-i.i None ∙ c.loop-i.invariant.size;
}

pub returns-clause-calls : goal.returns-clause-calls
returns-clause-calls c = emptied_in_progress c.args.threads.now c.loop-i.threads c.loop-i.i c.loop-i-test.false c.loop-i.invariant.emptied
