use Rattle.std.proofs.Common.{[], ◌∷◌, ◌++◌, sym, subst}
use Rattle.load_map.specs.Translation.{placed}
use Rattle.load_memory.specs.parts.WatchedRanges.{AreWatched, pair_ranges}
use Rattle.load_memory.proofs.WatchedRanges.{AreWatched-append, watched_ranges-parts}
use Rattle.load_memory.proofs.watch.watch_ranges.Goals as goal

pub returns : goal.returns
returns c =
    subst (λ ranges. AreWatched ranges c.args.guest.now c.watch_pairs-2.new.guest) (sym (watched_ranges-parts c.args.load_map.now c.args.object.now))
    (AreWatched-append ((placed c.args.load_map.now c.args.object.now.got, 12) ∷ []) (pair_ranges c.args.load_map.now c.args.object.now.rels ++ pair_ranges c.args.load_map.now c.args.object.now.jmprels) c.args.guest.now c.watch_range.new.guest c.watch_pairs-2.new.guest c.watch_range.ensures
    (AreWatched-append _ _ c.watch_range.new.guest c.watch_pairs.new.guest c.watch_pairs-2.new.guest
    (subst (λ rels. AreWatched (pair_ranges c.args.load_map.now rels) c.watch_range.new.guest c.watch_pairs.new.guest) c.as_slice.ensures c.watch_pairs.ensures)
    (subst (λ rels. AreWatched (pair_ranges c.args.load_map.now rels) c.watch_pairs.new.guest c.watch_pairs-2.new.guest) c.as_slice-2.ensures c.watch_pairs-2.ensures)))
