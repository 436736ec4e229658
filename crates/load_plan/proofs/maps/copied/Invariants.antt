use Rattle.std.proofs.Common.{◌≡◌, take}
use Rattle.load_plan.proofs.maps.copied.Given as goal

abbrev pub invariant-loop-map : goal.invariant-loop-map
invariant-loop-map l = l.copy.items ≡ take l.map-index l.maps
