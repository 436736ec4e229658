use Rattle.std.proofs.Common.{◌≡◌, Bool, take}
use Rattle.std.specs.List.{AllZip}
use Rattle.load_model.specs.Definition.{Linkage}
use Rattle.load_model.specs.Joined.{flags_of}
use Rattle.load_sites.specs.parts.Values.{IsValues}
use Rattle.load_image.specs.Places.{placing_in}
use Rattle.load_map.specs.Maps.{map_at}
use Rattle.load_plan.specs.parts.FinishedBytes.{AreImages}
use Rattle.load_plan.proofs.filling.parts.Given as goal

abbrev pub invariant-loop-i : goal.invariant-loop-i
invariant-loop-i l =
    (k : Linkage) (lazy : Bool) → IsValues k l.joining l.values → l.unbound ≡ flags_of lazy l.joining
    → AllZip (AreImages k (placing_in l.places) lazy (map_at l.places.maps)) (take l.i l.joining) l.parts
