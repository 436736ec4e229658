use Rattle.std.proofs.Common.{◌≡◌, ◌+◌, ◌∷◌, [], ◌++◌, map, length, ap, sym, ◌∙◌, arith}
use Rattle.std.specs.List.{range_with_len}
use Rattle.std.proofs.lemmas.List.FromFn.{map-range_with_len_more}
use Rattle.link_names.specs.parts.Joining.{sections_before}
use Rattle.link_names.proofs.Sections.{next_sections, all_sections}
use Rattle.link_names.proofs.numbering.section_starts.Goals as goal

pub loop-object-preserved : goal.loop-object-preserved
loop-object-preserved c =
    let inputs = c.args.inputs.now in
    let i = c.loop-object.object-index in
    let place : 0 + i ≡ i = omega arith in (
      c.in_ok-push.ensures ∙ ap (λ ss. ss ++ c.loop-object.count ∷ []) c.loop-object.invariant.0
          ∙ ap (λ n. map (sections_before inputs) (range_with_len 0 i) ++ n ∷ []) c.loop-object.invariant.1
          ∙ sym (map-range_with_len_more (sections_before inputs) 0 i i place),
      c.in_ok-count.ensures.count ∙ ap (λ n. n + length (c.object-item.result).sections) c.loop-object.invariant.1
          ∙ sym (next_sections inputs i c.object-item.result c.loop-object-test.true c.object-item.is),
      c.in_ok-count.ensures.small,
    )

pub returns-clause-starts : goal.returns-clause-starts
returns-clause-starts c =
    let end : c.loop-object.object-index ≡ length c.args.inputs.now = omega (arith, c.loop-object-test.false, c.loop-object.auto.object-index-end) in
    c.loop-object.invariant.0 ∙ ap (λ n. map (sections_before c.args.inputs.now) (range_with_len 0 n)) end

pub returns-clause-few : goal.returns-clause-few
returns-clause-few c = omega (arith, c.loop-object.invariant.2, c.loop-object.invariant.1, all_sections c.args.inputs.now c.loop-object.object-index c.loop-object-test.false)
