use Rattle.std.proofs.Common.{◌-◌, ap, ◌∙◌, arith}
use Rattle.link_model.specs.Joined.{greatest}
use Rattle.link_model.specs.Places.{blocks_of}
use Rattle.link_model.specs.Segments.{linked_bytes}
use Rattle.link_object.proofs.Filed.{data_from}
use Rattle.link_model.proofs.Written.{filled_below}
use Rattle.link_object.proofs.Greatest.{data_align}
use Rattle.link_object.proofs.segments.data_segment.Goals as goal

pub overflow_cast-vaddr : goal.overflow_cast-vaddr
overflow_cast-vaddr c =
    let l = c.args.layout.now in
    omega (arith, data_from l.mode l.text.inputs.now, c.requires.small, c.data_place-vaddr.ensures.place)

pub overflow_cast-filled_end : goal.overflow_cast-filled_end
overflow_cast-filled_end c =
    let l = c.args.layout.now in
    omega (arith, filled_below l.mode l.text.inputs.now, c.requires.small, c.filled_end-filled_end.ensures.end)

pub overflow_sub-result : goal.overflow_sub-result
overflow_sub-result c =
    let l = c.args.layout.now in
    omega (arith, data_from l.mode l.text.inputs.now, c.data_place.ensures.place, c.data_end.ensures.end)

pub returns : goal.returns
returns c =
    let l = c.args.layout.now in
    let inputs = l.text.inputs.now in
    let align = c.with_blocks.ensures l.mode inputs c.requires.targets ∙ ap (λ n. greatest n (λ t. t.align) (blocks_of l.mode inputs)) (c.greatest_align.ensures ∙ data_align inputs) in
    let filled = c.in_ok-linked_bytes.ensures ∙ (λ i. linked_bytes l.mode inputs (c.data_place-vaddr.ensures.place i) (c.filled_end-filled_end.ensures.end i)) in
    λ i. record { vaddr = c.data_place-vaddr.ensures.place i; memsz = c.data_end.ensures.end i - c.data_place.ensures.place i; flags = 6; align = align i; filled = filled i }
