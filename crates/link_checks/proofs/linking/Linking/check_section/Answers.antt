use Rattle.std.proofs.Common.{◌≡◌, ◌≤◌, length, get_or, take, Some, refl, ap, sym, subst, ◌∙◌, arith}
use Rattle.std.specs.Prelude.{slice_get}
use Rattle.std.proofs.lemmas.Option.{slice_get-get_or}
use Rattle.std.proofs.lemmas.Result.{err_from_is_err_and}
use Rattle.elf_model.specs.declared.object.Rel.{Rel}
use Rattle.elf_model.specs.declared.relocatable.RelSection.{RelSection}
use Rattle.link_model.specs.Inputs.{InputRel, rels_in}
use Rattle.link_model.specs.SiteTests.{meets_earlier, site_tests}
use Rattle.link_checks.specs.parts.Covered.{AreMarked, meets_any}
use Rattle.link_checks.specs.parts.Sited.{IsRel}
use Rattle.link_checks.proofs.Gained.{next_found, none_found, all_found}
use Rattle.link_checks.proofs.Passing.{taken, one_more, refused}
use Rattle.link_checks.proofs.Sections.{rel_at}
use Rattle.link_checks.proofs.linking.Linking.check_section.Goals as goal

pub returns-then-is_empty : goal.returns-then-is_empty
returns-then-is_empty c x others is were =
    let none : length (x.section).rels ≡ 0 = ap (λ (s : RelSection). length s.rels) (sym is.section') ∙ c.is_empty.ensures.0 c.if-is_empty.true in
    none_found c.args.self.now.joined.mode c.args.self.now.joined.inputs x others c.args.found.now none were

pub returns-in_err-facts : goal.returns-in_err-facts
returns-in_err-facts c x others is were =
    let p = err_from_is_err_and c.from_residual-in_err-facts.result c.from_residual-in_err-facts.ensures.1 in
    let l = c.args.self.now in
    let k = c.loop-rel.rel-index in
    let d : Rel = record { site = 0; kind = 0; symbol = 0 } in
    let r : Rel = get_or c.as_slice-rel-items.result.now k d in
    let there : slice_get (x.section).rels k ≡ Some r =
    (λ i. slice_get ((sym is.section') i).rels k) ∙ ap (λ rs. slice_get rs k) (sym c.as_slice-rel-items.ensures) ∙ slice_get-get_or c.as_slice-rel-items.result.now k d c.loop-rel-test.true in
    let y : InputRel = record { at = x; place = k; rel = r } in
    let one : IsRel y c.args.head.now c.args.section.now r = record { at' = is; rel' = refl } in
    let meets : c.meets.result ≡ meets_earlier y =
    c.meets.ensures (take k c.args.section.now.rels) c.loop-rel.invariant.marked ∙ ap (λ (s : RelSection). meets_any r (take k s.rels)) is.section' in
    rw (p.1, p.2) (refused (rels_in x) k y (rel_at x k r there) (site_tests l.joined.mode l.joined.inputs) (c.loop-rel.invariant.passed x is) c.in_err-facts.field-0.0 (c.in_err-facts.ensures y one meets))

pub loop-rel-preserved : goal.loop-rel-preserved
loop-rel-preserved c =
    let l = c.args.self.now in
    let k = c.loop-rel.rel-index in
    let d : Rel = record { site = 0; kind = 0; symbol = 0 } in
    let r : Rel = get_or c.as_slice-rel-items.result.now k d in
    let here : slice_get c.args.section.now.rels k ≡ Some r =
    ap (λ rs. slice_get rs k) (sym c.as_slice-rel-items.ensures) ∙ slice_get-get_or c.as_slice-rel-items.result.now k d c.loop-rel-test.true in
    record {
      size = c.put.ensures.size ∙ c.loop-rel.invariant.size;
      marked = subst (λ rs. AreMarked rs c.put.new.self.marks.items) (sym (taken c.args.section.now.rels k r here)) (c.put.ensures.marked (take k c.args.section.now.rels) c.loop-rel.invariant.marked);
      passed = λ x is.
          let there : slice_get (x.section).rels k ≡ Some r = (λ i. slice_get ((sym is.section') i).rels k) ∙ here in
          let y : InputRel = record { at = x; place = k; rel = r } in
          let one : IsRel y c.args.head.now c.args.section.now r = record { at' = is; rel' = refl } in
          let meets : c.meets.result ≡ meets_earlier y =
          c.meets.ensures (take k c.args.section.now.rels) c.loop-rel.invariant.marked ∙ ap (λ (s : RelSection). meets_any r (take k s.rels)) is.section' in
          one_more (rels_in x) k y (rel_at x k r there) (site_tests l.joined.mode l.joined.inputs) (c.loop-rel.invariant.passed x is) ∙ (c.in_ok-facts.ensures y one meets).0;
      found = λ x others is were.
          let there : slice_get (x.section).rels k ≡ Some r = (λ i. slice_get ((sym is.section') i).rels k) ∙ here in
          let y : InputRel = record { at = x; place = k; rel = r } in
          let one : IsRel y c.args.head.now c.args.section.now r = record { at' = is; rel' = refl } in
          let meets : c.meets.result ≡ meets_earlier y =
          c.meets.ensures (take k c.args.section.now.rels) c.loop-rel.invariant.marked ∙ ap (λ (s : RelSection). meets_any r (take k s.rels)) is.section' in
          let given = (c.in_ok-facts.ensures y one meets).1 in
          next_found l.joined.mode l.joined.inputs x k r others c.loop-rel.found c.push.new.self c.in_ok-facts.facts there (c.loop-rel.invariant.found x others is were) given.0 given.1 c.in_ok-push.ensures;
    }

pub returns : goal.returns
returns c x others is were =
    let k = c.loop-rel.rel-index in
    let past : length (x.section).rels ≤ k =
    omega (arith, ap (λ (s : RelSection). length s.rels) is.section', ap length c.as_slice-rel-items.ensures, c.loop-rel-test.false) in
    all_found c.args.self.now.joined.mode c.args.self.now.joined.inputs x k others c.loop-rel.found past (c.loop-rel.invariant.passed x is) (c.loop-rel.invariant.found x others is were)
