use Rattle.symbol_scope.proofs.Marking.{marked_more, read_false}
use Rattle.symbol_scope.proofs.closing.add_new.Goals as goal

pub returns-in_ok-push-clause-marked : goal.returns-in_ok-push-clause-marked
returns-in_ok-push-clause-marked c =
    let clear = read_false _ _ _ c.requires.small c.requires.marked.size c.index.ensures c.if-not-index.true in
    rw c.in_ok-push.ensures.items (marked_more _ _ _ c.requires.small clear c.requires.marked)
