use Rattle.load_plan.proofs.EnteredMaps.{IsEntered}
use Rattle.load_plan.proofs.maps.maps_with.Given as goal

abbrev pub invariant-loop-new : goal.invariant-loop-new
invariant-loop-new l = IsEntered l.maps l.joining l.addrs l.new-index l.from l.after.items
