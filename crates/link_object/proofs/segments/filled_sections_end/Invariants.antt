use Rattle.std.proofs.Common.{◌≡◌, filter, take}
use Rattle.link_model.specs.Inputs.{sections_of}
use Rattle.link_model.specs.Joined.{greatest}
use Rattle.link_object.specs.parts.Filled.{is_filled_text, text_end_of}
use Rattle.link_object.proofs.segments.filled_sections_end.Given as goal

abbrev pub invariant-loop-head : goal.invariant-loop-head
invariant-loop-head l = l.end ≡ greatest 0 (text_end_of l.layout.text.inputs.now) (filter is_filled_text (take l.head-index (sections_of l.layout.text.inputs.now)))
