use Rattle.elf_read.proofs.Placed.{aligned, place_tells, passed_not}
use Rattle.elf_read.proofs.sites.Taken.check.Goals as goal

pub meets-requires-clause-aligned : goal.meets-requires-clause-aligned
meets-requires-clause-aligned c = aligned c.args.loads.now c.args.site.now c.requires.whole c.requires.below (passed_not _ _ c.is_in_place.ensures c.in_ok-refuse.ensures)

pub meets-requires-clause-fits : goal.meets-requires-clause-fits
meets-requires-clause-fits c = (place_tells c.args.loads.now c.args.site.now c.requires.below (passed_not _ _ c.is_in_place.ensures c.in_ok-refuse.ensures)).1
