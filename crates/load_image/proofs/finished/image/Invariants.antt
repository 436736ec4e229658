use Rattle.std.proofs.Common.{take}
use Rattle.std.specs.List.{AllZip}
use Rattle.load_model.specs.Definition.{Linkage}
use Rattle.load_model.specs.Image.{IsPart}
use Rattle.load_map.specs.Maps.{map_at}
use Rattle.load_image.specs.Places.{placing_in}
use Rattle.load_map.specs.Maps.{map_at}
use Rattle.load_image.specs.parts.Words.{HasValues}
use Rattle.load_image.proofs.finished.image.Given as goal

-- the parts so far
abbrev pub invariant-loop-segment : goal.invariant-loop-segment
invariant-loop-segment l =
    (k : Linkage) → HasValues k l.m l.object l.values
    → AllZip (IsPart k (placing_in l.places) l.m l.object l.unbound) (take l.segment-index (map_at l.places.maps l.m)) l.image
