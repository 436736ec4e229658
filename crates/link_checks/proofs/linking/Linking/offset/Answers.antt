use Rattle.std.proofs.Common.{◌≡◌, ap, ◌∙◌, arith}
use Rattle.std.proofs.lemmas.Grind.{common_steps}
use Rattle.link_model.specs.Needs.{all_needs, descriptor_need, offset_of}
use Rattle.link_checks.proofs.linking.Linking.offset.Goals as goal

pub returns-then-is_function_kind : goal.returns-then-is_function_kind
returns-then-is_function_kind c =
    let l = c.args.self.now in
    let t = c.args.target.now in
    let place : c.offset-then-is_function_kind.result ≡ offset_of (all_needs l.joined.mode l.joined.inputs) (descriptor_need l.joined.inputs t) =
    c.offset-then-is_function_kind.ensures ∙ ap (λ ns. offset_of ns c.descriptor_need.result) l.layout.wanted ∙ ap (offset_of (all_needs l.layout.mode l.layout.text.inputs.now)) c.descriptor_need.ensures
    ∙ (λ i. offset_of (all_needs (l.one_mode i) (l.one_inputs i)) (descriptor_need (l.one_inputs i) t)) in
    let a = c.if-kind-eq-R_ARM_GOT_BREL.false in
    let b = c.if-kind-eq-R_ARM_GOTFUNCDESC.false in
    let d = c.if-is_function_kind.true in
    let e = c.is_function_kind.ensures in
    grind (arith, common_steps)
