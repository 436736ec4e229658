use Rattle.std.proofs.Common.{◌≡◌, ◌≤◌, length, ap, ◌∙◌, arith}
use Rattle.std.specs.List.{flat_map}
use Rattle.std.proofs.lemmas.List.{take_all, get_or_default}
use Rattle.fd_base.proofs.Members.{contains_at}
use Rattle.link_model.specs.Needs.{all_needs}
use Rattle.link_model.specs.Segments.{need_words}
use Rattle.link_got.proofs.OneLink.{same-needs}
use Rattle.link_got.proofs.Rows.{made-more, taken-at}
use Rattle.link_got.proofs.got.got_words.Goals as goal

pub put_need-requires-clause-there : goal.put_need-requires-clause-there
put_need-requires-clause-there c =
    let needs = all_needs c.args.joined.now.mode c.args.joined.now.inputs in
    contains_at needs c.loop-need.need-index _
    (taken-at needs _ c.loop-need.need-index _ (c.list-need-items.ensures ∙ same-needs c.args.joined.now c.args.layout.now c.requires.one) c.loop-need-test.true
    (get_or_default _ c.loop-need.need-index _ _ c.loop-need-test.true))

pub loop-need-preserved : goal.loop-need-preserved
loop-need-preserved c =
    let mode = c.args.joined.now.mode in
    let inputs = c.args.joined.now.inputs in
    made-more (need_words mode inputs) (all_needs mode inputs) _ c.loop-need.need-index _ c.loop-need.words c.put_need.new.words
    (c.list-need-items.ensures ∙ same-needs c.args.joined.now c.args.layout.now c.requires.one) c.loop-need-test.true
    (get_or_default _ c.loop-need.need-index _ _ c.loop-need-test.true) c.loop-need.invariant c.in_ok-put_need.ensures

pub returns : goal.returns
returns c =
    let mode = c.args.joined.now.mode in
    let inputs = c.args.joined.now.inputs in
    let needs = all_needs mode inputs in
    let list : c.list-need-items.result.now ≡ needs = c.list-need-items.ensures ∙ same-needs c.args.joined.now c.args.layout.now c.requires.one in
    let past : length needs ≤ c.loop-need.need-index = omega (arith, c.loop-need-test.false, ap length list) in
    c.loop-need.invariant ∙ ap (flat_map (need_words mode inputs)) (take_all c.loop-need.need-index needs past)
