use Rattle.std.proofs.Common.{◌≡◌, ◌++◌, None, subst, refl, ◌∙◌}
use Rattle.std.specs.Prelude.{flat_map}
use Rattle.std.proofs.lemmas.Result.{err_from_is_err_and}
use Rattle.elf_model.specs.Test.{first_failing}
use Rattle.link_model.specs.Inputs.{all_rels}
use Rattle.link_model.specs.Needs.{need_tests}
use Rattle.link_model.specs.Refusals.{entry_tests}
use Rattle.link_model.specs.SiteTests.{site_tests}
use Rattle.link_model.specs.Targets.{all_name_tests}
use Rattle.link_model.specs.parts.Passes.{IsRefusal}
use Rattle.link_checks.proofs.Passing.{passed_both, refused_first, refused_later}
use Rattle.link_checks.specs.parts.Entry.{entry_of}
use Rattle.link_checks.specs.parts.Found.{AreFound}
use Rattle.fdpic_link.proofs.tested.test_inputs.Goals as goal

pub returns-in_err-linking : goal.returns-in_err-linking
returns-in_err-linking c =
    let p = err_from_is_err_and c.from_residual.result c.from_residual.ensures.1 in
    let mode = c.args.mode in
    let inputs = c.args.inputs.now in
    let joined = all_name_tests mode inputs ++ need_tests mode inputs in
    let later = flat_map (site_tests mode inputs) (all_rels inputs) ++ entry_tests mode inputs in
    rw (p.1, p.2) (refused_first joined later c.in_err-linking.field-0.0 c.in_err-linking.ensures)

pub returns-in_err-facts : goal.returns-in_err-facts
returns-in_err-facts c =
    let p = err_from_is_err_and c.from_residual-in_err-facts.result c.from_residual-in_err-facts.ensures.1 in
    let mode = c.args.mode in
    let inputs = c.args.inputs.now in
    let e = c.in_err-facts.field-0.0 in
    let joined = all_name_tests mode inputs ++ need_tests mode inputs in
    let sites = flat_map (site_tests mode inputs) (all_rels inputs) in
    let first : IsRefusal e sites =
    subst (λ os. IsRefusal e (flat_map (site_tests mode os) (all_rels os))) c.in_ok-linking.ensures.1.1
    (subst (λ m. IsRefusal e (flat_map (site_tests m c.in_ok-linking.linking.joined.inputs) (all_rels c.in_ok-linking.linking.joined.inputs))) c.in_ok-linking.ensures.1.0 c.in_err-facts.ensures) in
    rw (p.1, p.2) (refused_later joined (sites ++ entry_tests mode inputs) e c.in_ok-linking.ensures.0 (refused_first sites (entry_tests mode inputs) e first))

pub returns-in_err-entry : goal.returns-in_err-entry
returns-in_err-entry c =
    let p = err_from_is_err_and c.from_residual-in_err-entry.result c.from_residual-in_err-entry.ensures.1 in
    let mode = c.args.mode in
    let inputs = c.args.inputs.now in
    let e = c.in_err-entry.field-0.0 in
    let joined = all_name_tests mode inputs ++ need_tests mode inputs in
    let sites = flat_map (site_tests mode inputs) (all_rels inputs) in
    let passed : first_failing sites ≡ None =
    subst (λ os. first_failing (flat_map (site_tests mode os) (all_rels os)) ≡ None) c.in_ok-linking.ensures.1.1
    (subst (λ m. first_failing (flat_map (site_tests m c.in_ok-linking.linking.joined.inputs) (all_rels c.in_ok-linking.linking.joined.inputs)) ≡ None) c.in_ok-linking.ensures.1.0 c.in_ok-facts.ensures.0) in
    let first : IsRefusal e (entry_tests mode inputs) =
    subst (λ os. IsRefusal e (entry_tests mode os)) c.in_ok-linking.ensures.1.1
    (subst (λ m. IsRefusal e (entry_tests m c.in_ok-linking.linking.joined.inputs)) c.in_ok-linking.ensures.1.0 c.in_err-entry.ensures) in
    rw (p.1, p.2) (refused_later joined (sites ++ entry_tests mode inputs) e c.in_ok-linking.ensures.0 (refused_later sites (entry_tests mode inputs) e passed first))

pub returns : goal.returns
returns c =
    let mode = c.args.mode in
    let inputs = c.args.inputs.now in
    let joined = all_name_tests mode inputs ++ need_tests mode inputs in
    let sites = flat_map (site_tests mode inputs) (all_rels inputs) in
    let passed : first_failing sites ≡ None =
    subst (λ os. first_failing (flat_map (site_tests mode os) (all_rels os)) ≡ None) c.in_ok-linking.ensures.1.1
    (subst (λ m. first_failing (flat_map (site_tests m c.in_ok-linking.linking.joined.inputs) (all_rels c.in_ok-linking.linking.joined.inputs)) ≡ None) c.in_ok-linking.ensures.1.0 c.in_ok-facts.ensures.0) in
    let entered : first_failing (entry_tests mode inputs) ≡ None =
    subst (λ os. first_failing (entry_tests mode os) ≡ None) c.in_ok-linking.ensures.1.1
    (subst (λ m. first_failing (entry_tests m c.in_ok-linking.linking.joined.inputs) ≡ None) c.in_ok-linking.ensures.1.0 c.in_ok-entry.ensures.0) in (
      passed_both joined (sites ++ entry_tests mode inputs) c.in_ok-linking.ensures.0 (passed_both sites (entry_tests mode inputs) passed entered),
      record {
        mode' = c.in_ok-linking.linking.one_mode ∙ c.in_ok-linking.ensures.1.0;
        inputs' = c.in_ok-linking.linking.one_inputs ∙ c.in_ok-linking.ensures.1.1;
        found =
            subst (λ os. AreFound mode os (all_rels os) c.in_ok-facts.facts) c.in_ok-linking.ensures.1.1
            (subst (λ m. AreFound m c.in_ok-linking.linking.joined.inputs (all_rels c.in_ok-linking.linking.joined.inputs) c.in_ok-facts.facts) c.in_ok-linking.ensures.1.0 c.in_ok-facts.ensures.1);
        begins =
            c.in_ok-entry.ensures.1
            ∙ subst (λ os. entry_of c.in_ok-linking.linking.joined.mode c.in_ok-linking.linking.joined.inputs ≡ entry_of mode os) c.in_ok-linking.ensures.1.1
            (subst (λ m. entry_of c.in_ok-linking.linking.joined.mode c.in_ok-linking.linking.joined.inputs ≡ entry_of m c.in_ok-linking.linking.joined.inputs) c.in_ok-linking.ensures.1.0 refl);
      },
    )
