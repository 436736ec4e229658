use Rattle.std.proofs.Common.{arith}
use Rattle.load_plan.proofs.NewItems.{all_owned, all_sized, all_few}
use Rattle.load_plan.proofs.placing.place.Goals as goal

pub plan-requires-clause-owners : goal.plan-requires-clause-owners
plan-requires-clause-owners c = rw c.in_ok-items.ensures (all_owned c.args.places.now c.args.joining.now c.requires.numbers)

pub plan-requires-clause-few : goal.plan-requires-clause-few
plan-requires-clause-few c =
    let few = all_few c.args.places.now c.args.joining.now c.requires.sound in
    rw c.in_ok-items.ensures (omega (arith, few, c.requires.few))

pub plan-requires-clause-sizes : goal.plan-requires-clause-sizes
plan-requires-clause-sizes c = rw c.in_ok-items.ensures (all_sized c.args.places.now c.args.joining.now c.requires.sound)
