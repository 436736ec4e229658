use Rattle.std.proofs.Common.{◌≡◌, rules}
use Rattle.std.specs.Iterator.Adapters.{zip_first, zip_second}
use Rattle.std.specs.Slice.Iter.{iter_rest}
use Rattle.std.proofs.lemmas.Slice.Zip.{zip_end}
use Rattle.load_image.specs.Places.{placing_in}
use Rattle.load_image.proofs.SiteValues.{values_all}
use Rattle.load_image.proofs.filling.push_values.Goals as goal

pub returns : goal.returns
returns c =
    let s = c.into_iter-site-iterator.result in
    let first : iter_rest (zip_first s) ≡ c.args.sites.now = search rules in
    let second : iter_rest (zip_second s) ≡ c.args.values.now = search rules in
    let end = zip_end c.args.sites.now c.args.values.now c.loop-site.yielded s c.loop-site.site-iterator c.next.new.self c.next.result first second c.loop-site.yielded_by c.in-None.is c.next.ensures.steps in
    values_all (placing_in c.args.places.now) c.args.m c.args.object.now c.args.unbound.now _ _ _ _ _ end c.loop-site.invariant
