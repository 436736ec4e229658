use Rattle.std.proofs.Common.{arith}
use Rattle.link_model.specs.Sites.{site_rels}
use Rattle.link_words.specs.parts.Facts.{AreFacts}
use Rattle.link_object.proofs.Gathered.{one_more, all_gathered}
use Rattle.link_object.proofs.rels.put_site_rels.Goals as goal

pub loop-one-preserved : goal.loop-one-preserved
loop-one-preserved c mode inputs xs all =
    one_more (AreFacts mode inputs) (site_rels mode inputs) xs _ all _ _ _ (c.loop-one.invariant mode inputs xs all) _ _ _ (omega arith) c.in_ok-put_rel.ensures (c.rel_at.ensures mode inputs)

pub returns : goal.returns
returns c mode inputs xs all = all_gathered (AreFacts mode inputs) (site_rels mode inputs) xs _ all _ _ _ (c.loop-one.invariant mode inputs xs all) (omega arith)
