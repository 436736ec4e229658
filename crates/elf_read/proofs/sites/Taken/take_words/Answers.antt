use Rattle.std.proofs.Common.{◌∙◌, arith}
use Rattle.std.proofs.lemmas.Bool.Decides.{nat_tests}
use Rattle.elf_read.specs.parts.Taken.{covers}
use Rattle.elf_read.proofs.Meeting.{takes_more}
use Rattle.elf_read.proofs.sites.Taken.take_words.Goals as goal

pub loop-k-init : goal.loop-k-init
unfolding covers
loop-k-init c = λ w. grind (arith, nat_tests)

pub loop-k-preserved : goal.loop-k-preserved
loop-k-preserved c = λ w. c.in_ok-insert.ensures.updates.0 w ∙ takes_more _ _ w _ _ c.requires.aligned.addr (c.loop-k.invariant w)
