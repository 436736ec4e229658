use Rattle.std.proofs.Common.{take}
use Rattle.load_places.specs.parts.Descriptors.{HasDescriptorsPut}
use Rattle.load_places.proofs.descriptors.put_descriptors.Given as goal

-- the descriptors so far are put
abbrev pub invariant-loop-entry : goal.invariant-loop-entry
invariant-loop-entry l = HasDescriptorsPut l.process l.maps (take l.entry-index l.given) l.fn.guest l.guest
