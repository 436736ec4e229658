use Rattle.std.specs.Prelude.{nat_eq}
use Rattle.symbol_scope.proofs.Marking.{named_more}
use Rattle.symbol_scope.proofs.closing.add_named.Goals as goal

pub loop-name-preserved : goal.loop-name-preserved
loop-name-preserved c = record {
  found = named_more nat_eq _ _ _ _ _ _ _ c.loop-name-test.true c.name-item.is c.loop-name.invariant.found c.in_ok-add_one.ensures.found;
  marked = c.in_ok-add_one.ensures.marked;
}
