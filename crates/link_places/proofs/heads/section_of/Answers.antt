use Rattle.std.proofs.Common.{get_or, ap, ◌∙◌}
use Rattle.link_model.proofs.Located.{section_read}
use Rattle.link_places.proofs.heads.section_of.Goals as goal

pub returns : goal.returns
returns c x there input number =
    let o = c.index-inputs-head.result in
    let s = c.index-as_slice-head.result in
    section_read c.args.inputs.now x there o s c.args.head.now.input c.args.head.now.number c.index-inputs-head.is
    (c.index-as_slice-head.is ∙ ap (λ ss. get_or ss c.args.head.now.number s) c.as_slice.ensures) input number
