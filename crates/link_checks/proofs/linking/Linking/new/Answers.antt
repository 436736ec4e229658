use Rattle.std.proofs.Common.{◌≡◌, All, None, ap, sym, subst, ◌∙◌}
use Rattle.std.proofs.lemmas.Result.{err_from_is_err_and}
use Rattle.link_model.specs.Inputs.{sections_of}
use Rattle.link_model.specs.Needs.{need_tests}
use Rattle.link_model.specs.Targets.{all_name_tests}
use Rattle.link_model.specs.parts.Passes.{IsRefusal}
use Rattle.elf_model.specs.Test.{first_failing}
use Rattle.link_names.specs.parts.Joining.{Joining}
use Rattle.link_checks.specs.parts.Sited.{HasWordsInside}
use Rattle.link_checks.proofs.Passing.{passed_both, refused_first, refused_later}
use Rattle.link_checks.proofs.Sections.{words_inside}
use Rattle.link_checks.proofs.linking.Linking.new.Goals as goal

pub returns-in_err-joined : goal.returns-in_err-joined
returns-in_err-joined c =
    let p = err_from_is_err_and c.from_residual.result c.from_residual.ensures.1 in
    let mode = c.args.mode in
    let inputs = c.args.inputs.now in
    rw (p.1, p.2) (refused_first (all_name_tests mode inputs) (need_tests mode inputs) c.in_err-joined.field-0.0 c.in_err-joined.ensures)

pub returns-in_err-needs : goal.returns-in_err-needs
returns-in_err-needs c =
    let p = err_from_is_err_and c.from_residual-in_err-needs.result c.from_residual-in_err-needs.ensures.1 in
    let mode = c.args.mode in
    let inputs = c.args.inputs.now in
    let e = c.in_err-needs.field-0.0 in
    rw (p.1, p.2) (refused_later (all_name_tests mode inputs) (need_tests mode inputs) e c.in_ok-joined.ensures.0
    (subst (λ (j : Joining). IsRefusal e (need_tests j.mode j.inputs)) c.in_ok-joined.ensures.1 c.in_err-needs.ensures))

pub invariant_of-result : goal.invariant_of-result
invariant_of-result c =
    let mode = ap (λ (j : Joining). j.mode) c.in_ok-joined.ensures.1 in
    let inputs = ap (λ (j : Joining). j.inputs) c.in_ok-joined.ensures.1 in
    record {
      one_mode = c.in_ok-layout.ensures.mode ∙ sym mode;
      one_inputs = c.in_ok-layout.ensures.inputs ∙ c.in_ok-text.ensures ∙ sym inputs;
      seen = c.in_ok-shown.ensures;
      inside = subst (λ os. All HasWordsInside (sections_of os)) (sym inputs) (words_inside c.args.inputs.now c.requires);
    }

pub returns : goal.returns
returns c =
    let mode = c.args.mode in
    let inputs = c.args.inputs.now in
    let needed = subst (λ (j : Joining). first_failing (need_tests j.mode j.inputs) ≡ None) c.in_ok-joined.ensures.1 c.in_ok-needs.ensures.0 in
    (passed_both (all_name_tests mode inputs) (need_tests mode inputs) c.in_ok-joined.ensures.0 needed, (ap (λ (j : Joining). j.mode) c.in_ok-joined.ensures.1, ap (λ (j : Joining). j.inputs) c.in_ok-joined.ensures.1))
