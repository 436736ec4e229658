use Rattle.std.proofs.Common.{◌≡◌, ◌<◌, ◌-◌, ◌+◌, ap, sym, ◌∙◌, subst, arith, length, get_or}
use Rattle.std.proofs.lemmas.List.{length-set}
use Rattle.link_layout.specs.Layout.{places}
use Rattle.link_places.proofs.Lays.{no_piece, place-at, has-place, placed-before, within-numbers}
use Rattle.link_places.proofs.lying.lay_numbered.Goals as goal

pub bounds-as_slice-left : goal.bounds-as_slice-left
bounds-as_slice-left c =
    let lt : c.loop-left.left - 1 < length c.args.numbered.now = omega (arith, c.loop-left.invariant.within) in
    let is = c.as_slice-in-loop-left.ensures ∙ c.in_ok-laid.ensures.places ∙ ap (places c.args.from) (c.as_slice.ensures ∙ c.in_ok-pieces.ensures) in
    subst (λ ps. c.loop-left.left - 1 < length ps) (sym is) (has-place c.args.from c.args.numbered.now (c.loop-left.left - 1) no_piece lt)

pub loop-left-preserved : goal.loop-left-preserved
loop-left-preserved c =
    let i = c.loop-left.left - 1 in
    let hs = c.args.numbered.now in
    let lt : i < length hs = omega (arith, c.loop-left.invariant.within) in
    let one : c.loop-left.left ≡ i + 1 = omega arith in
    let is = c.as_slice-in-loop-left.ensures ∙ c.in_ok-laid.ensures.places ∙ ap (places c.args.from) (c.as_slice.ensures ∙ c.in_ok-pieces.ensures) in
    let place = ap (λ ps. get_or ps i 0) is ∙ place-at c.args.from hs i no_piece lt in
    let slot : (get_or hs i no_piece).number < length c.loop-left.places.items = omega (arith, within-numbers c.args.count hs i no_piece c.requires.numbered lt, c.loop-left.invariant.len) in
    record {
      within = omega arith;
      len = length-set c.loop-left.places.items (get_or hs i no_piece).number (get_or c.as_slice-in-loop-left.result.now i 0) ∙ c.loop-left.invariant.len;
      placed = placed-before c.args.from hs i c.loop-left.left c.in_ok-laid.laid.end (get_or c.as_slice-in-loop-left.result.now i 0) c.loop-left.places.items no_piece lt slot place one c.loop-left.invariant.placed;
    }
