use Rattle.std.proofs.Common.{take, sym, subst}
use Rattle.std.specs.List.{AllZip}
use Rattle.load_image.specs.Places.{placing_in}
use Rattle.load_map.specs.Maps.{map_at}
use Rattle.load_image.specs.parts.Words.{FitSites}
use Rattle.fd_base.proofs.Lists.{zip-get_or, zip_push}
use Rattle.std.proofs.lemmas.List.{take_all, take_more}
use Rattle.load_plan.specs.parts.FinishedBytes.{AreImages}
use Rattle.load_plan.proofs.SiteValues.{flags_at, values_at}
use Rattle.load_plan.proofs.filling.parts.Goals as goal

pub image-requires-clause-values : goal.image-requires-clause-values
image-requires-clause-values c =
    let fit = zip-get_or (λ j v. FitSites j.object v) c.args.joining.now c.args.values.now c.loop-i.i c.index-joining-i.result c.index-values-i.result c.requires.fit c.loop-i-test.true in
    rw c.as_slice-in-loop-i.ensures (rw (sym c.index-joining-i.is, sym c.index-values-i.is) at fit)

pub loop-i-preserved : goal.loop-i-preserved
loop-i-preserved c = λ k lazy known flags.
    let joining = c.args.joining.now in
    let new = c.index-joining-i.result in
    let known_here = values_at k joining c.args.values.now c.loop-i.i new c.index-values-i.result known c.loop-i-test.true in
    let known_there = rw (sym c.index-joining-i.is, sym c.index-values-i.is) at known_here in
    let own = flags_at lazy joining c.args.unbound.now c.loop-i.i new c.index-unbound-i.result flags c.loop-i-test.true in
    let own_there = rw (sym c.index-joining-i.is, sym c.index-unbound-i.is) at own in
    let made = rw (c.as_slice.ensures, own_there) at (c.in_ok-part.ensures k (rw c.as_slice-in-loop-i.ensures known_there)) in
    let all = zip_push (AreImages k (placing_in c.args.places.now) lazy (map_at c.args.places.now.maps)) (take c.loop-i.i joining) c.loop-i.parts new c.in_ok-part.part
    (c.loop-i.invariant k lazy known flags) made in
    let more = rw (sym c.index-joining-i.is) at (take_more joining c.loop-i.i new c.loop-i-test.true) in
    rw (c.in_ok-push.ensures, more) all

pub returns : goal.returns
returns c = λ k lazy known flags.
    subst (λ new. AllZip (AreImages k (placing_in c.args.places.now) lazy (map_at c.args.places.now.maps)) new c.loop-i.parts)
    (take_all c.loop-i.i c.args.joining.now c.loop-i-test.false) (c.loop-i.invariant k lazy known flags)
