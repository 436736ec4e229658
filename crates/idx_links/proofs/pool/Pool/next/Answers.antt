use Rattle.std.proofs.lemmas.Option.{IfSome_then}
use Rattle.idx_links.proofs.Edited.{behind_in}
use Rattle.idx_links.proofs.Keeping.{order_of, live_in, ids_in, listed_live}
use Rattle.idx_links.proofs.pool.Pool.next.Goals as goal

pub next-requires : goal.next-requires
next-requires g c =
    let s = c.self.inside in
    (0, live_in s.places s.owners s.entries.items s.spare c.self.invariant c.args.self.now c.self.view_is c.args.id c.requires)

pub returns-clause-next : goal.returns-clause-next
returns-clause-next g c =
    let s = c.self.inside in
    rw (ids_in s.places s.owners s.entries.items s.spare c.self.invariant c.args.self.now c.self.view_is) (c.next.ensures 0 (live_in s.places s.owners s.entries.items s.spare c.self.invariant c.args.self.now c.self.view_is c.args.id c.requires))

pub returns-clause-live : goal.returns-clause-live
returns-clause-live g c =
    let s = c.self.inside in
    let behind = c.next.ensures 0 (live_in s.places s.owners s.entries.items s.spare c.self.invariant c.args.self.now c.self.view_is c.args.id c.requires) in
    rw behind (IfSome_then _ (behind_in c.args.id (order_of s.places)) (listed_live s.places s.owners s.entries.items s.spare c.self.invariant c.args.self.now c.self.view_is))
