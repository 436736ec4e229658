use Rattle.std.proofs.Common.{◌∙◌, arith}
use Rattle.std.proofs.lemmas.Grind.{common_steps}
use Rattle.link_places.proofs.Listing.{all-more, all-there}
use Rattle.link_places.proofs.heads.section_heads.Goals as goal

pub loop-i-preserved : goal.loop-i-preserved
loop-i-preserved c =
    all-more c.loop-i.i c.args.inputs.now c.object-item.result c.in_ok-input.input c.loop-i.heads c.put_sections.new.heads (grind (arith, common_steps)) (grind (arith, common_steps)) c.in_ok-input.ensures
    c.loop-i.invariant c.in_ok-put_sections.ensures

pub returns : goal.returns
returns c = c.loop-i.invariant ∙ all-there c.args.inputs.now c.loop-i.i (grind (arith, common_steps))
