use Rattle.std.proofs.Common.{◌≡◌, ◌<◌, ◌≤◌, [], ◌∷◌, length, get_or, Some, ap, sym, subst, ◌∙◌, arith}
use Rattle.std.specs.Prelude.{slice_get, nat_lt}
use Rattle.std.proofs.lemmas.Option.{slice_get-get_or}
use Rattle.symbol_scope.specs.Closure.{with_new}
use Rattle.link_model.specs.declared.error.LinkRefusal.TheVariants.{TooLarge}
use Rattle.link_model.specs.Needs.{all_needs, is_same_need, need_tests}
use Rattle.link_model.specs.Targets.{refuses}
use Rattle.link_model.specs.parts.Passes.{Gives}
use Rattle.link_places.specs.parts.Gathering.{input_needs}
use Rattle.link_places.specs.parts.NeedTable.{needs_in, needs_of}
use Rattle.link_places.proofs.Gathered.{grown-numbered, all-gathered}
use Rattle.link_places.proofs.gather.gather_needs.Goals as goal

pub add_input-requires-clause-input : goal.add_input-requires-clause-input
add_input-requires-clause-input c =
    let inputs = c.args.joined.now.inputs in
    let within : c.loop-i.i < length inputs = omega (arith, c.loop-i-test.true, ap length c.inputs-object-items.ensures) in
    let item : c.object-item.result ≡ get_or inputs c.loop-i.i c.object-item.result = c.object-item.is ∙ ap (λ os. get_or os c.loop-i.i c.object-item.result) c.inputs-object-items.ensures in
    ap (slice_get inputs) c.in_ok-input.ensures ∙ slice_get-get_or inputs c.loop-i.i c.object-item.result within ∙ ap Some (sym item)

pub loop-i-preserved : goal.loop-i-preserved
loop-i-preserved c =
    let inputs = c.args.joined.now.inputs in
    let within : c.loop-i.i < length inputs = omega (arith, c.loop-i-test.true, ap length c.inputs-object-items.ensures) in
    let item : c.object-item.result ≡ get_or inputs c.loop-i.i c.object-item.result = c.object-item.is ∙ ap (λ os. get_or os c.loop-i.i c.object-item.result) c.inputs-object-items.ensures in
    grown-numbered (input_needs c.args.joined.now.mode inputs) inputs c.loop-i.i c.object-item.result [] (needs_in c.loop-i.needs) (needs_in c.add_input.new.needs) within item c.loop-i.invariant
    (c.in_ok-add_input.ensures ∙ ap (λ n. with_new is_same_need (needs_in c.loop-i.needs) (input_needs c.args.joined.now.mode inputs (n, c.object-item.result))) c.in_ok-input.ensures)

pub returns : goal.returns
unfolding need_tests
returns c =
    let mode = c.args.joined.now.mode in
    let inputs = c.args.joined.now.inputs in
    let past : length inputs ≤ c.loop-i.i = omega (arith, c.loop-i-test.false, ap length c.inputs-object-items.ensures) in
    let all : needs_in c.loop-i.needs ≡ all_needs mode inputs = all-gathered mode inputs c.loop-i.i (needs_in c.loop-i.needs) past c.loop-i.invariant in
    subst (λ needs. Gives c.new.result (refuses TooLarge (nat_lt 65536 (length needs)) ∷ []) (λ table. needs_of table ≡ needs)) all c.new.ensures
