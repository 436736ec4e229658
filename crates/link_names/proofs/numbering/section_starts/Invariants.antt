use Rattle.std.proofs.Common.{◌≡◌, ◌<◌, ◌^◌, map}
use Rattle.std.specs.List.{range_with_len}
use Rattle.link_names.specs.parts.Joining.{sections_before}
use Rattle.link_names.proofs.numbering.section_starts.Given as goal

abbrev pub invariant-loop-object : goal.invariant-loop-object
invariant-loop-object l = (l.starts ≡ map (sections_before l.inputs) (range_with_len 0 l.object-index)) × (l.count ≡ sections_before l.inputs l.object-index) × (l.count < 2 ^ 32)
