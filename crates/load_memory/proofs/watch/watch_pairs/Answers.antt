use Rattle.std.proofs.Common.{[], ◌∷◌, get_or, take, sym, subst}
use Rattle.std.proofs.lemmas.List.{take_more}
use Rattle.load_memory.specs.parts.WatchedRanges.{AreWatched, pair_ranges}
use Rattle.load_memory.proofs.WatchedRanges.{AreWatched-append, pair_ranges-append}
use Rattle.load_memory.proofs.watch.watch_pairs.Goals as goal

pub loop-rel-preserved : goal.loop-rel-preserved
loop-rel-preserved c =
    subst (λ rels. AreWatched (pair_ranges c.args.load_map.now rels) c.args.guest.now c.watch_pair.new.guest) (sym (take_more c.args.rels.now c.loop-rel.rel-index _ c.loop-rel-test.true))
    (subst (λ ranges. AreWatched ranges c.args.guest.now c.watch_pair.new.guest) (sym (pair_ranges-append c.args.load_map.now (take c.loop-rel.rel-index c.args.rels.now) (get_or c.args.rels.now c.loop-rel.rel-index _ ∷ [])))
    (AreWatched-append _ _ c.args.guest.now c.loop-rel.guest c.watch_pair.new.guest c.loop-rel.invariant c.watch_pair.ensures))
