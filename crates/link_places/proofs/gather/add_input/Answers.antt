use Rattle.std.proofs.Common.{arith}
use Rattle.link_places.specs.parts.Gathering.{section_needs}
use Rattle.link_places.specs.parts.NeedTable.{needs_in}
use Rattle.link_places.proofs.Gathered.{grown-next, grown-all}
use Rattle.link_places.proofs.gather.add_input.Goals as goal

pub loop-section-preserved : goal.loop-section-preserved
loop-section-preserved c =
    grown-next (section_needs c.args.joined.now.mode c.args.joined.now.inputs c.args.input) c.args.object.now.sections _ c.loop-section.section-index c.section-item.result (needs_in c.args.needs.now)
    (needs_in c.loop-section.needs) (needs_in c.add_section.new.needs) c.as_slice-section-items.ensures c.loop-section-test.true c.section-item.is c.loop-section.invariant c.in_ok-add_section.ensures

pub returns : goal.returns
returns c =
    grown-all (section_needs c.args.joined.now.mode c.args.joined.now.inputs c.args.input) c.args.object.now.sections _ c.loop-section.section-index (needs_in c.args.needs.now)
    (needs_in c.loop-section.needs) c.as_slice-section-items.ensures (omega (arith, c.loop-section-test.false)) c.loop-section.invariant
