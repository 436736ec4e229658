use Rattle.std.proofs.Common.{arith}
use Rattle.std.proofs.lemmas.List.{get_or_default}
use Rattle.link_places.specs.parts.Gathering.{rel_needs}
use Rattle.link_places.specs.parts.NeedTable.{needs_in}
use Rattle.link_places.proofs.Gathered.{grown-next, grown-all}
use Rattle.link_places.proofs.gather.add_section.Goals as goal

pub loop-rel-preserved : goal.loop-rel-preserved
loop-rel-preserved c =
    grown-next (rel_needs c.args.joined.now.mode c.args.joined.now.inputs c.args.input) c.args.section.now.rels _ c.loop-rel.rel-index _ (needs_in c.args.needs.now)
    (needs_in c.loop-rel.needs) (needs_in c.add_rel.new.needs) c.as_slice-rel-items.ensures c.loop-rel-test.true (get_or_default _ c.loop-rel.rel-index _ _ c.loop-rel-test.true) c.loop-rel.invariant c.in_ok-add_rel.ensures

pub returns : goal.returns
returns c =
    grown-all (rel_needs c.args.joined.now.mode c.args.joined.now.inputs c.args.input) c.args.section.now.rels _ c.loop-rel.rel-index (needs_in c.args.needs.now)
    (needs_in c.loop-rel.needs) c.as_slice-rel-items.ensures (omega (arith, c.loop-rel-test.false)) c.loop-rel.invariant
