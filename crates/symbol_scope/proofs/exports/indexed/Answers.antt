use Rattle.symbol_scope.proofs.Indexing.{indexed_more}
use Rattle.symbol_scope.proofs.exports.indexed.Goals as goal

pub loop-i-preserved : goal.loop-i-preserved
loop-i-preserved c =
    indexed_more c.args.symbols.now c.loop-i.i c.index-symbols-i.result c.loop-i.index.entries c.add_entry.new.index.entries
    c.loop-i-test.true c.index-symbols-i.is c.in_ok-add_entry.ensures c.loop-i.invariant
