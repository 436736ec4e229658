use Rattle.elf_write.proofs.Parts.{rel_rows_more}
use Rattle.elf_write.proofs.rows.put_rels.Goals as goal

pub loop-rel-preserved : goal.loop-rel-preserved
loop-rel-preserved c =
    rel_rows_more c.args.rels.now c.loop-rel.rel-index _ c.loop-rel-test.true c.loop-rel.out _ _ c.in_ok-put_rel.ensures c.loop-rel.invariant
