use Rattle.std.proofs.Common.{ap, arith}
use Rattle.idx_links.proofs.Keeping.{all_in}
use Rattle.idx_links.proofs.pool.Pool.len.Goals as goal

pub returns : goal.returns
returns g c =
    let s = c.self.inside in
    omega (arith, all_in s.places s.owners s.entries.items s.spare c.self.invariant c.args.self.now c.self.view_is, ap (λ n. n.spare) c.self.view_is, c.len.ensures, s.entries.ok)
