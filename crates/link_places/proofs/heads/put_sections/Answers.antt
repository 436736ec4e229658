use Rattle.std.proofs.Common.{◌++◌, ap, ◌∙◌, arith, length, ◌<◌}
use Rattle.std.proofs.lemmas.Grind.{common_steps}
use Rattle.link_places.specs.parts.Heads.{heads_from}
use Rattle.link_places.proofs.Listing.{put-more, all-parts}
use Rattle.link_places.proofs.heads.put_sections.Goals as goal

pub loop-n-preserved : goal.loop-n-preserved
loop-n-preserved c =
    put-more c.args.input c.loop-n.n c.in_ok-index.index c.in_ok-number.number c.args.object.now c.section-item.result c.args.heads.now c.loop-n.heads c.push.new.self c.new.result
    (let lt : c.loop-n.n < length c.args.object.now.sections = grind (arith, common_steps) in lt) (grind (arith, common_steps)) c.loop-n.invariant (c.in_ok-index.ensures ∙ c.len.ensures) c.in_ok-number.ensures c.new.ensures c.in_ok-push.ensures

pub returns : goal.returns
returns c = c.loop-n.invariant ∙ ap (λ ps. c.args.heads.now ++ heads_from (length c.args.heads.now) ps) (all-parts c.args.input c.loop-n.n c.args.object.now (grind (arith, common_steps)))
