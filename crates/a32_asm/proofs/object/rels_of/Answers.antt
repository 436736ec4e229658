use Rattle.a32_asm.proofs.Built.{rels_more}
use Rattle.a32_asm.proofs.object.rels_of.Goals as goal

pub loop-rel-preserved : goal.loop-rel-preserved
loop-rel-preserved c =
    rels_more c.args.all.now c.args.numbered.now c.args.rels.now c.loop-rel.rel-index _ c.place_of.result c.number_of.result c.known.result.now c.loop-rel.made c.push.new.self
    c.place_of.ensures c.known.ensures c.number_of.ensures c.in_ok-push.ensures c.loop-rel-test.true c.loop-rel.invariant
