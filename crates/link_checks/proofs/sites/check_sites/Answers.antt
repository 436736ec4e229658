use Rattle.std.proofs.Common.{◌≡◌, None, length, get_or, take, refl, ap, sym, subst, ◌∙◌, arith}
use Rattle.std.specs.Prelude.{◌<◌, Contains}
use Rattle.std.specs.List.{flat_map}
use Rattle.std.proofs.lemmas.List.{length-map, take_all}
use Rattle.std.proofs.lemmas.Result.{err_from_is_err_and}
use Rattle.elf_model.specs.Test.{first_failing}
use Rattle.link_model.specs.Inputs.{InputSection, rels_in, sections_of}
use Rattle.link_model.specs.SiteTests.{site_tests}
use Rattle.link_model.specs.parts.Passes.{IsRefusal}
use Rattle.link_names.specs.parts.Joining.{HasInput}
use Rattle.link_places.specs.declared.heads.SectionHead.{SectionHead}
use Rattle.link_places.specs.parts.Heads.{head_of, heads_of}
use Rattle.link_checks.specs.parts.Found.{AreFound}
use Rattle.link_checks.specs.parts.Sited.{IsSection}
use Rattle.link_checks.proofs.Heads.{section_of, has_input, all_inside}
use Rattle.link_checks.proofs.Passing.{flattened, mapped, one_more, refused}
use Rattle.link_checks.proofs.sites.check_sites.Goals as goal

pub section_of-section-requires : goal.section_of-section-requires
section_of-section-requires c =
    let l = c.args.linking.now in
    let k = c.loop-head.head-index in
    let d : SectionHead = record { index = 0; input = 0; number = 0; kind = 0; flags = 0; align = 0; size = 0 } in
    let h : SectionHead = get_or c.heads-head-items.result.now k d in
    let s = section_of l.joined.inputs k h c.heads-head-items.result.now d (c.heads-head-items.ensures ∙ ap heads_of l.one_inputs) c.loop-head-test.true refl in
    subst (λ xs. HasInput xs h.input (λ o. h.number < length o.sections)) (sym c.inputs.ensures) (has_input l.joined.inputs k h s)

pub check_section-requires : goal.check_section-requires
check_section-requires c =
    let l = c.args.linking.now in
    let k = c.loop-head.head-index in
    let d : SectionHead = record { index = 0; input = 0; number = 0; kind = 0; flags = 0; align = 0; size = 0 } in
    let h : SectionHead = get_or c.heads-head-items.result.now k d in
    let s = section_of l.joined.inputs k h c.heads-head-items.result.now d (c.heads-head-items.ensures ∙ ap heads_of l.one_inputs) c.loop-head-test.true refl in
    all_inside l.joined.inputs k h s c.section_of-section.result.now (c.section_of-section.ensures s.section (subst (λ xs. Contains (sections_of xs) s.section) (sym c.inputs.ensures) s.known) s.input' s.number') l.inside

pub returns-in_err-check_section : goal.returns-in_err-check_section
returns-in_err-check_section c =
    let p = err_from_is_err_and c.from_residual.result c.from_residual.ensures.1 in
    let l = c.args.linking.now in
    let mode = l.joined.mode in
    let inputs = l.joined.inputs in
    let k = c.loop-head.head-index in
    let d : SectionHead = record { index = 0; input = 0; number = 0; kind = 0; flags = 0; align = 0; size = 0 } in
    let h : SectionHead = get_or c.heads-head-items.result.now k d in
    let s = section_of inputs k h c.heads-head-items.result.now d (c.heads-head-items.ensures ∙ ap heads_of l.one_inputs) c.loop-head-test.true refl in
    let is : IsSection s.section h c.section_of-section.result.now = record { head' = s.head'; section' = c.section_of-section.ensures s.section (subst (λ xs. Contains (sections_of xs) s.section) (sym c.inputs.ensures) s.known) s.input' s.number' } in
    let e = c.in_err-check_section.field-0.0 in
    let here = c.in_err-check_section.ensures s.section (flat_map rels_in (take k (sections_of inputs))) is c.loop-head.invariant.found in
    let all : flat_map (λ (x : InputSection). flat_map (site_tests mode inputs) (rels_in x)) (sections_of inputs) ≡ flat_map (site_tests mode inputs) (flat_map rels_in (sections_of inputs)) =
    sym (flattened rels_in (site_tests mode inputs) (sections_of inputs)) in
    rw (p.1, p.2) (subst (IsRefusal e) all
    (refused (sections_of inputs) k s.section s.there (λ (x : InputSection). flat_map (site_tests mode inputs) (rels_in x)) c.loop-head.invariant.passed e here))

pub loop-head-preserved : goal.loop-head-preserved
loop-head-preserved c =
    let l = c.args.linking.now in
    let mode = l.joined.mode in
    let inputs = l.joined.inputs in
    let k = c.loop-head.head-index in
    let d : SectionHead = record { index = 0; input = 0; number = 0; kind = 0; flags = 0; align = 0; size = 0 } in
    let h : SectionHead = get_or c.heads-head-items.result.now k d in
    let s = section_of inputs k h c.heads-head-items.result.now d (c.heads-head-items.ensures ∙ ap heads_of l.one_inputs) c.loop-head-test.true refl in
    let is : IsSection s.section h c.section_of-section.result.now = record { head' = s.head'; section' = c.section_of-section.ensures s.section (subst (λ xs. Contains (sections_of xs) s.section) (sym c.inputs.ensures) s.known) s.input' s.number' } in
    let here = c.in_ok-check_section.ensures s.section (flat_map rels_in (take k (sections_of inputs))) is c.loop-head.invariant.found in
    record {
      passed = one_more (sections_of inputs) k s.section s.there (λ (x : InputSection). flat_map (site_tests mode inputs) (rels_in x)) c.loop-head.invariant.passed ∙ here.0;
      found = subst (λ xs. AreFound mode inputs xs c.check_section.new.found) (sym (mapped (sections_of inputs) k s.section s.there rels_in)) here.1;
    }

pub returns : goal.returns
returns c =
    let l = c.args.linking.now in
    let mode = l.joined.mode in
    let inputs = l.joined.inputs in
    let k = c.loop-head.head-index in
    let size : length c.heads-head-items.result.now ≡ length (sections_of inputs) = ap length (c.heads-head-items.ensures ∙ ap heads_of l.one_inputs) ∙ length-map (sections_of inputs) head_of in
    let all : take k (sections_of inputs) ≡ sections_of inputs = take_all k (sections_of inputs) (omega (arith, size, c.loop-head-test.false)) in
    let tests : first_failing (flat_map (λ (x : InputSection). flat_map (site_tests mode inputs) (rels_in x)) (sections_of inputs)) ≡ None =
    ap (λ xs. first_failing (flat_map (λ (x : InputSection). flat_map (site_tests mode inputs) (rels_in x)) xs)) (sym all) ∙ c.loop-head.invariant.passed in
    (ap first_failing (flattened rels_in (site_tests mode inputs) (sections_of inputs)) ∙ tests, subst (λ xs. AreFound mode inputs (flat_map rels_in xs) c.loop-head.found) all c.loop-head.invariant.found)
