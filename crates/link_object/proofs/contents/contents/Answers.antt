use Rattle.std.proofs.Common.{◌≡◌, [], ◌∷◌, ◌++◌, cond, filter, take, ◌+◌, ap, sym, subst, ◌∙◌, arith}
use Rattle.link_model.specs.Inputs.{sections_of}
use Rattle.link_words.specs.parts.Contents.{AreContentsOf}
use Rattle.link_object.specs.parts.Filled.{is_copied}
use Rattle.link_object.proofs.Copied.{one_more}
use Rattle.link_object.proofs.contents.contents.Goals as goal
use Rattle.link_object.proofs.contents.contents.Goals.{then-is_copied+in_ok-push, else-is_copied}

pub loop-head-preserved : goal.loop-head-preserved
loop-head-preserved c =
    let mode = c.args.layout.now.mode in
    let inputs = c.args.layout.now.text.inputs.now in
    let more = one_more mode inputs c.args.is_writable c.heads-head-items.result.now c.loop-head.head-index _ c.content_of-content.result c.loop-head.contents c.is_copied.result c.heads-head-items.ensures (omega arith)
    c.content_of-content.ensures (c.is_copied.ensures mode inputs) c.loop-head.invariant in
    let joined : c.if-is_copied.contents ≡ cond c.is_copied.result (c.loop-head.contents ++ c.content_of-content.result ∷ []) c.loop-head.contents =
    elim c.if-is_copied.branch [
      | then-is_copied+in_ok-push w ↦ w.contents-is ∙ w.in_ok-push.ensures ∙ ap (λ b. cond b (c.loop-head.contents ++ c.content_of-content.result ∷ []) c.loop-head.contents) (sym w.if-is_copied.true)
      | else-is_copied w ↦ w.contents-is ∙ ap (λ b. cond b (c.loop-head.contents ++ c.content_of-content.result ∷ []) c.loop-head.contents) (sym w.if-is_copied.false)
    ] in
    subst (AreContentsOf mode inputs (filter (is_copied c.args.is_writable) (take (c.loop-head.head-index + 1) (sections_of inputs)))) (sym joined) more
