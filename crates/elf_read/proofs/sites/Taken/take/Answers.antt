use Rattle.std.proofs.lemmas.Result.{on_ok_weaker}
use Rattle.elf_read.proofs.Placed.{aligned, place_tells, has_more}
use Rattle.elf_read.proofs.sites.Taken.take.Goals as goal

pub take_words-requires-clause-aligned : goal.take_words-requires-clause-aligned
take_words-requires-clause-aligned c = aligned c.args.loads.now c.args.site.now c.requires.whole c.requires.below c.requires.in_place

pub take_words-requires-clause-fits : goal.take_words-requires-clause-fits
take_words-requires-clause-fits c = (place_tells c.args.loads.now c.args.site.now c.requires.below c.requires.in_place).1

pub returns : goal.returns
returns c =
    on_ok_weaker c.take_words.result (λ takes sites has. has_more c.args.self.now c.take_words.new.self sites c.args.site.now (aligned c.args.loads.now c.args.site.now c.requires.whole c.requires.below c.requires.in_place) takes has) c.take_words.ensures
