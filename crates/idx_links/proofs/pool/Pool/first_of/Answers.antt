use Rattle.std.proofs.lemmas.Option.{IfSome_then}
use Rattle.idx_links.specs.parts.Lists.{list_at}
use Rattle.idx_links.proofs.Edited.{first_in}
use Rattle.idx_links.proofs.Keeping.{owned_live, tied}
use Rattle.idx_links.proofs.pool.Pool.first_of.Goals as goal

pub returns-clause-live : goal.returns-clause-live
returns-clause-live g c =
    let s = c.self.inside in
    rw c.first.ensures (IfSome_then _ (first_in (list_at s.owners.lists c.args.owner)) (owned_live s.places s.owners s.entries.items s.spare c.self.invariant c.args.self.now c.self.view_is c.args.owner))

pub returns-clause-tied : goal.returns-clause-tied
returns-clause-tied g c =
    let s = c.self.inside in
    rw (← c.self.view_is) (tied s.places s.owners s.entries.items s.spare c.self.invariant)
