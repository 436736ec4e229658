use Rattle.std.proofs.Common.{◌≡◌, take}
use Rattle.std.specs.List.{flat_map}
use Rattle.link_model.specs.Inputs.{numbered, sections_in}
use Rattle.link_places.specs.parts.Heads.{heads_from}
use Rattle.link_places.proofs.heads.section_heads.Given as goal

abbrev pub invariant-loop-i : goal.invariant-loop-i
invariant-loop-i l = l.heads ≡ heads_from 0 (flat_map sections_in (take l.i (numbered l.fn.inputs)))
