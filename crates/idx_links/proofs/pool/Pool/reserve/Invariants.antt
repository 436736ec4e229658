use Rattle.std.proofs.Common.{◌≡◌, ◌≤◌}
use Rattle.idx_links.proofs.pool.Pool.reserve.Given as goal

abbrev pub invariant-loop : goal.invariant-loop
invariant-loop g l = record {
  counted : l.self.spare ≡ l.counter;
  grows : l.fn.self.spare ≤ l.self.spare;
  stays : l.self ≡ record l.fn.self { spare = l.self.spare };
}
