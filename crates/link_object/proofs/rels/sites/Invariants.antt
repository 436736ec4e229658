use Rattle.std.proofs.Common.{◌≡◌, map, take}
use Rattle.link_object.proofs.rels.sites.Given as goal

abbrev pub invariant-loop-rel : goal.invariant-loop-rel
invariant-loop-rel l = l.sites ≡ map (λ r. r.site) (take l.rel-index l.rels)
