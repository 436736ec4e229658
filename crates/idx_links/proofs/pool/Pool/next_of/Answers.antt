use Rattle.std.proofs.lemmas.Option.{IfSome_then}
use Rattle.idx_links.specs.parts.Lists.{list_at}
use Rattle.idx_links.proofs.Edited.{behind_in}
use Rattle.idx_links.proofs.Keeping.{live_in, owned_live, next_in_chain}
use Rattle.idx_links.proofs.pool.Pool.next_of.Goals as goal

pub next-requires : goal.next-requires
next-requires g c =
    let s = c.self.inside in
    let has = c.self.invariant.entered c.args.id (live_in s.places s.owners s.entries.items s.spare c.self.invariant c.args.self.now c.self.view_is c.args.id c.requires) in
    (has.0.owner, has.2)

pub returns-clause-next : goal.returns-clause-next
returns-clause-next g c =
    let s = c.self.inside in
    next_in_chain s.places s.owners s.entries.items s.spare c.self.invariant c.args.self.now c.self.view_is c.args.id c.next.result c.requires c.next.ensures

pub returns-clause-live : goal.returns-clause-live
returns-clause-live g c =
    let s = c.self.inside in
    let has = c.self.invariant.entered c.args.id (live_in s.places s.owners s.entries.items s.spare c.self.invariant c.args.self.now c.self.view_is c.args.id c.requires) in
    let behind = c.next.ensures has.0.owner has.2 in
    rw behind (IfSome_then _ (behind_in c.args.id (list_at s.owners.lists has.0.owner)) (owned_live s.places s.owners s.entries.items s.spare c.self.invariant c.args.self.now c.self.view_is has.0.owner))
