use Rattle.std.proofs.Common.{◌<◌, arith, length}
use Rattle.std.proofs.lemmas.Option.{slice_get_within}
use Rattle.std.proofs.lemmas.List.{get_or_default}
use Rattle.link_places.proofs.Offsets.{one-more}
use Rattle.link_places.proofs.got.GotOffsets.new.Goals as goal

pub loop-need-preserved : goal.loop-need-preserved
loop-need-preserved c =
    let lt = c.loop-need-test.true in
    one-more c.args.needs.now c.loop-need.need-index c.take.result _ c.loop-need.offsets c.push.new.self c.loop-need.next c.take.new.self c.loop-need.invariant lt
    (get_or_default c.args.needs.now c.loop-need.need-index _ _ lt) c.take.ensures.place c.take.ensures.next c.in_ok-push.ensures

pub returns-clause-offsets : goal.returns-clause-offsets
returns-clause-offsets c = record {
  each = λ i need there.
      let lt : i < length c.args.needs.now = slice_get_within c.args.needs.now i need there in
      c.loop-need.invariant.each i need (omega arith) there;
}
