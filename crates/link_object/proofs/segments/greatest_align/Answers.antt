use Rattle.std.proofs.Common.{ap, sym, ◌∙◌, arith}
use Rattle.link_places.specs.declared.heads.SectionHead.{SectionHead}
use Rattle.link_object.specs.parts.Filled.{is_of_part}
use Rattle.link_object.proofs.Greatest.{ord_max_is, head_taken, head_passed}
use Rattle.link_object.proofs.segments.greatest_align.Goals as goal
use Rattle.link_object.proofs.segments.greatest_align.Goals.{then-is_of_part, else-is_of_part}

pub loop-head-preserved : goal.loop-head-preserved
loop-head-preserved c =
    let inputs = c.args.layout.now.text.inputs.now in
    elim c.if-is_of_part.branch [
      | then-is_of_part w ↦
          w.align-is ∙ w.max-align.ensures ∙ ord_max_is c.loop-head.align _
          ∙ head_taken inputs (λ x. (x.section).align) 16 (is_of_part c.args.is_writable) c.heads-head-items.result.now c.loop-head.head-index _ c.heads-head-items.ensures (omega arith) c.loop-head.align c.loop-head.invariant _
          (λ x is. sym (c.is_of_part.ensures x is) ∙ w.if-is_of_part.true) (λ x is. ap (λ (h : SectionHead). h.align) is)
      | else-is_of_part w ↦
          w.align-is
          ∙ head_passed inputs (λ x. (x.section).align) 16 (is_of_part c.args.is_writable) c.heads-head-items.result.now c.loop-head.head-index _ c.heads-head-items.ensures (omega arith) c.loop-head.align c.loop-head.invariant
          (λ x is. sym (c.is_of_part.ensures x is) ∙ w.if-is_of_part.false)
    ]
