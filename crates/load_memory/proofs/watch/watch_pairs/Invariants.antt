use Rattle.std.proofs.Common.{take}
use Rattle.load_memory.specs.parts.WatchedRanges.{AreWatched, pair_ranges}
use Rattle.load_memory.proofs.watch.watch_pairs.Given as goal

-- the descriptors so far are watched
abbrev pub invariant-loop-rel : goal.invariant-loop-rel
invariant-loop-rel l = AreWatched (pair_ranges l.load_map (take l.rel-index l.rels)) l.initial.guest l.guest
