use Rattle.std.proofs.Common.{sym, ◌∙◌, arith}
use Rattle.load_plan.proofs.LaidSegments.{placed_length, items_length, ends_after}
use Rattle.load_plan.proofs.layout.lay_out.Goals as goal

pub place-requires-clause-few : goal.place-requires-clause-few
place-requires-clause-few c = rw c.as_slice-joining.ensures (omega (arith, c.requires.roomy.few, c.requires.few))

pub maps_with-requires-clause-count : goal.maps_with-requires-clause-count
maps_with-requires-clause-count c =
    let space = c.args.ranges.now in
    let placed = rw c.in_ok-items.ensures.items at c.in_ok-items.ensures.placed in
    let count = items_length c.as_slice-2.result.now c.as_slice-joining.result.now in
    let long = placed_length space.low space.high space.held _ c.in_ok-items.field-0.addrs placed in
    rw c.as_slice-3.ensures (sym (long ∙ count))

pub placed_pairs-requires : goal.placed_pairs-requires
placed_pairs-requires c =
    let space = c.args.ranges.now in
    let placed = rw c.in_ok-items.ensures.items at c.in_ok-items.ensures.placed in
    let ends = ends_after space.low space.high c.as_slice-2.result.now c.as_slice-joining.result.now c.args.standing.now.maps.now space.held c.in_ok-items.field-0.addrs
    c.requires.roomy.small c.requires.roomy.ends placed in
    rw (c.as_slice-4.ensures, c.in_ok-maps.ensures, c.as_slice-3.ensures) ends

pub returns-clause-ends : goal.returns-clause-ends
returns-clause-ends c =
    let space = c.args.ranges.now in
    let placed = rw c.in_ok-items.ensures.items at c.in_ok-items.ensures.placed in
    let ends = ends_after space.low space.high c.as_slice-2.result.now c.as_slice-joining.result.now c.args.standing.now.maps.now space.held c.in_ok-items.field-0.addrs
    c.requires.roomy.small c.requires.roomy.ends placed in
    rw (c.in_ok-maps.ensures, c.as_slice-3.ensures) ends
