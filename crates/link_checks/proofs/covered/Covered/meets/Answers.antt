use Rattle.std.proofs.Common.{◌∙◌, sym}
use Rattle.link_checks.proofs.Marks.{told_first, told_last}
use Rattle.link_checks.proofs.covered.Covered.meets.Goals as goal

pub returns-then-marks-first : goal.returns-then-marks-first
returns-then-marks-first c rels are =
    told_first c.args.rel.now rels c.args.self.now.marks.items c.as_slice-marks.result.now are c.as_slice-marks.ensures.value c.requires (sym c.is_idle.ensures ∙ c.if-not-is_idle.true) c.if-marks-first.true

pub returns-else-marks-first : goal.returns-else-marks-first
returns-else-marks-first c rels are =
    told_last c.args.rel.now rels c.args.self.now.marks.items c.as_slice-marks.result.now are c.as_slice-marks.ensures.value c.requires (sym c.is_idle.ensures ∙ c.if-not-is_idle.true) c.if-marks-first.false
