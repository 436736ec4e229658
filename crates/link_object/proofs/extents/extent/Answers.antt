use Rattle.std.proofs.Common.{◌+◌}
use Rattle.link_object.proofs.Arrays.{no_extent, some_extent}
use Rattle.link_object.proofs.extents.extent.Goals as goal

pub returns-then-low-high : goal.returns-then-low-high
returns-then-low-high c xs is =
    no_extent c.args.layout.now.mode c.args.layout.now.text.inputs.now xs c.args.sections.now c.in_ok-first.first.now c.in_ok-last.last.now c.section_place-low.result (c.section_place.result + c.from.result)
    is c.in_ok-first.ensures.value c.in_ok-last.ensures.value c.section_place-low.ensures.place
    (λ i. c.section_place.ensures.place i + c.from.ensures i) c.if-low-high.true

pub returns : goal.returns
returns c xs is =
    some_extent c.args.layout.now.mode c.args.layout.now.text.inputs.now xs c.args.sections.now c.in_ok-first.first.now c.in_ok-last.last.now c.section_place-low.result (c.section_place.result + c.from.result)
    is c.in_ok-first.ensures.value c.in_ok-last.ensures.value c.section_place-low.ensures.place
    (λ i. c.section_place.ensures.place i + c.from.ensures i) c.if-low-high.false
