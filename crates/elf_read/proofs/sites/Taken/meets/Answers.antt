use Rattle.std.proofs.Common.{◌+◌, ◌*◌, ◌∙◌, sym, arith}
use Rattle.elf_read.proofs.Meeting.{hit, miss}
use Rattle.elf_read.proofs.sites.Taken.meets.Goals as goal

pub returns-then-contains : goal.returns-then-contains
returns-then-contains c = λ sites has. sym (hit sites c.args.site.now (c.args.site.now.addr + 4 * c.loop-k.k) (omega arith) (omega (arith, c.requires.aligned.size)) (sym (has.words _) ∙ sym c.if-contains.ensures))

pub returns : goal.returns
returns c = λ sites has. sym (miss sites c.args.site.now c.requires.aligned has.aligned (λ j lt. sym (has.words _) ∙ c.loop-k.invariant j (omega arith)))
