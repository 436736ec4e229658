use Rattle.std.proofs.Common.{arith}
use Rattle.std.proofs.lemmas.List.{get_or_default}
use Rattle.link_got.proofs.Rows.{word-more, all-words}
use Rattle.link_got.proofs.row.put_row.Goals as goal

pub loop-n-preserved : goal.loop-n-preserved
loop-n-preserved c =
    word-more c.args.place c.args.values.now c.loop-n.n _ c.args.words.now c.loop-n.words c.push.new.self c.loop-n-test.true
    (get_or_default c.args.values.now c.loop-n.n _ _ c.loop-n-test.true) c.loop-n.invariant c.in_ok-push.ensures

pub returns : goal.returns
returns c = all-words c.args.place c.args.values.now c.loop-n.n c.args.words.now c.loop-n.words (omega (arith, c.loop-n-test.false)) c.loop-n.invariant
