use Rattle.std.proofs.Common.{◌+◌, ap, sym, ◌∙◌, arith}
use Rattle.link_model.specs.Sections.{text_place}
use Rattle.link_places.specs.declared.heads.SectionHead.{SectionHead}
use Rattle.link_object.specs.parts.Filled.{is_filled_text, text_end_of}
use Rattle.link_object.proofs.Greatest.{ord_max_is, head_taken, head_passed}
use Rattle.link_object.proofs.segments.filled_sections_end.Goals as goal
use Rattle.link_object.proofs.segments.filled_sections_end.Goals.{then-is_filled_text, else-is_filled_text}

pub loop-head-preserved : goal.loop-head-preserved
loop-head-preserved c =
    let inputs = c.args.layout.now.text.inputs.now in
    elim c.if-is_filled_text.branch [
      | then-is_filled_text w ↦
          w.end-is ∙ w.max-end.ensures ∙ ord_max_is c.loop-head.end _
          ∙ head_taken inputs (text_end_of inputs) 0 is_filled_text c.heads-head-items.result.now c.loop-head.head-index _ c.heads-head-items.ensures (omega arith) c.loop-head.end c.loop-head.invariant _
          (λ x is. sym (c.is_filled_text.ensures x is) ∙ w.if-is_filled_text.true)
          (λ x is. (λ i. w.place.ensures.place i + w.from.ensures i) ∙ ap (λ (h : SectionHead). text_place inputs h.index + h.size) is)
      | else-is_filled_text w ↦
          w.end-is
          ∙ head_passed inputs (text_end_of inputs) 0 is_filled_text c.heads-head-items.result.now c.loop-head.head-index _ c.heads-head-items.ensures (omega arith) c.loop-head.end c.loop-head.invariant
          (λ x is. sym (c.is_filled_text.ensures x is) ∙ w.if-is_filled_text.false)
    ]
