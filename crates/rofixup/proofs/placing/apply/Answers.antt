use Rattle.rofixup.proofs.Places.{all_placed}
use Rattle.rofixup.proofs.placing.apply.Goals as goal

pub returns-in-None-clause-placed : goal.returns-in-None-clause-placed
returns-in-None-clause-placed c =
    rw c.place_all.ensures (all_placed c.args.map.now c.args.values.now (cc))
