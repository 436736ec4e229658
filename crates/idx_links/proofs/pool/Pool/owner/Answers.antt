use Rattle.std.proofs.Common.{sym, ap, ◌∙◌, arith}
use Rattle.std.specs.Prelude.{option_map}
use Rattle.idx_links.proofs.Keeping.{live_entry, live_within}
use Rattle.idx_links.proofs.pool.Pool.owner.Goals as goal

pub index-requires : goal.index-requires
index-requires g c =
    let s = c.self.inside in
    omega (arith, live_within s.places s.owners s.entries.items s.spare c.self.invariant c.args.self.now c.self.view_is c.args.id c.requires, s.entries.ok)

pub unreachable-requires : goal.unreachable-requires
unreachable-requires g c =
    let s = c.self.inside in
    let has = live_entry s.places s.owners s.entries.items s.spare c.self.invariant c.args.self.now c.self.view_is c.args.id c.index.result.now c.requires c.index.ensures in
    cc (has.1, c.in-None.is)

pub returns : goal.returns
returns g c =
    let s = c.self.inside in
    let has = live_entry s.places s.owners s.entries.items s.spare c.self.invariant c.args.self.now c.self.view_is c.args.id c.index.result.now c.requires c.index.ensures in
    rw has.2 (ap (option_map (λ e. e.owner)) (sym has.1 ∙ c.in-Some.is))
