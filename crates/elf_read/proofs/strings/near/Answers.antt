use Rattle.elf_read.proofs.Near.{near_is}
use Rattle.elf_read.proofs.strings.near.Goals as goal

pub returns : goal.returns
returns c = near_is c.args.strings.now c.args.k c.min-start.result c.min-end.result c.min-start.ensures c.min-end.ensures
