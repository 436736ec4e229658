use Rattle.std.proofs.Common.{◌≡◌, rules}
use Rattle.std.specs.Iterator.Adapters.{zip_first, zip_second}
use Rattle.std.specs.Slice.Iter.{iter_rest}
use Rattle.std.proofs.lemmas.Slice.Zip.{zip_end}
use Rattle.placed_code.proofs.EmptyZips.{none_left}
use Rattle.placed_code.proofs.code.code_in.Goals as goal

pub returns : goal.returns
returns c =
    let s = c.into_iter-segment-iterator.result in
    let first : iter_rest (zip_first s) ≡ c.args.object.now.segments = search rules in
    let second : iter_rest (zip_second s) ≡ c.args.load_map.now = search rules in
    let end = zip_end c.args.object.now.segments c.args.load_map.now c.loop-segment.yielded s c.loop-segment.segment-iterator c.next.new.self c.next.result first second
    c.loop-segment.yielded_by c.in-None.is c.next.ensures.steps in
    none_left c.args.addr c.args.m c.args.object.now c.args.load_map.now _ end c.loop-segment.invariant
