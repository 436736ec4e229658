use Rattle.std.proofs.lemmas.Option.{IfSome_then}
use Rattle.idx_links.proofs.Edited.{first_in}
use Rattle.idx_links.proofs.Keeping.{order_of, ids_in, listed_live, tied}
use Rattle.idx_links.proofs.pool.Pool.first.Goals as goal

pub returns-clause-first : goal.returns-clause-first
returns-clause-first g c =
    let s = c.self.inside in
    rw (ids_in s.places s.owners s.entries.items s.spare c.self.invariant c.args.self.now c.self.view_is) c.first.ensures

pub returns-clause-live : goal.returns-clause-live
returns-clause-live g c =
    let s = c.self.inside in
    rw c.first.ensures (IfSome_then _ (first_in (order_of s.places)) (listed_live s.places s.owners s.entries.items s.spare c.self.invariant c.args.self.now c.self.view_is))

pub returns-clause-tied : goal.returns-clause-tied
returns-clause-tied g c =
    let s = c.self.inside in
    rw (← c.self.view_is) (tied s.places s.owners s.entries.items s.spare c.self.invariant)
