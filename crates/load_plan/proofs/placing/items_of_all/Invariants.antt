use Rattle.std.proofs.Common.{◌≡◌, take}
use Rattle.load_state.specs.Accepted.{all_items}
use Rattle.load_plan.proofs.placing.items_of_all.Given as goal

abbrev pub invariant-loop-new : goal.invariant-loop-new
invariant-loop-new l = l.all ≡ all_items l.places (take l.new-index l.joining)
