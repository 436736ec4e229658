use Rattle.std.proofs.Common.{◌≡◌, filter, take}
use Rattle.link_model.specs.Inputs.{sections_of}
use Rattle.link_model.specs.Segments.{greatest_align}
use Rattle.link_object.specs.parts.Filled.{is_of_part}
use Rattle.link_object.proofs.segments.greatest_align.Given as goal

abbrev pub invariant-loop-head : goal.invariant-loop-head
invariant-loop-head l = l.align ≡ greatest_align (filter (is_of_part l.is_writable) (take l.head-index (sections_of l.layout.text.inputs.now)))
