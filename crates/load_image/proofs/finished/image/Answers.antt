use Rattle.std.proofs.Common.{◌∙◌}
use Rattle.load_image.specs.Places.{placing_in}
use Rattle.load_image.proofs.FilledRanges.{own_bytes_at, whole_at}
use Rattle.load_image.proofs.ImageParts.{part_more, all_parts}
use Rattle.load_image.proofs.finished.image.Goals as goal

pub part-requires-clause-whole : goal.part-requires-clause-whole
part-requires-clause-whole c =
    let at = rw c.as_slice-segment-items.ensures at c.segment-item.is in
    let lt = rw c.as_slice-segment-items.ensures at c.loop-segment-test.true in
    rw c.deref.ensures.value (whole_at (placing_in c.args.places.now) _ _ c.args.unbound.now _ _ _ _ c.requires.sound c.requires.values c.in_ok-words.ensures.values lt at)

pub part-requires-clause-own : goal.part-requires-clause-own
part-requires-clause-own c =
    let at = rw c.as_slice-segment-items.ensures at c.segment-item.is in
    let lt = rw c.as_slice-segment-items.ensures at c.loop-segment-test.true in
    own_bytes_at _ _ _ c.requires.sound.apart lt at

pub loop-segment-preserved : goal.loop-segment-preserved
loop-segment-preserved c = λ l known.
    let at = rw c.as_slice-segment-items.ensures at c.segment-item.is in
    let lt = rw c.as_slice-segment-items.ensures at c.loop-segment-test.true in
    rw c.in_ok-push.ensures
    (part_more l (placing_in c.args.places.now) _ _ _ c.args.unbound.now _ _ _ _ _ c.requires.mapped lt at (c.deref.ensures.value ∙ c.in_ok-words.ensures.known l known) (c.loop-segment.invariant l known) c.in_ok-part.ensures.len c.in_ok-part.ensures.bytes)

pub returns : goal.returns
returns c = λ l known.
    let le = rw c.as_slice-segment-items.ensures at c.loop-segment-test.false in
    all_parts l (placing_in c.args.places.now) _ _ _ c.args.unbound.now _ _ c.requires.mapped le (c.loop-segment.invariant l known)
