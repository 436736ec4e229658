use Rattle.elf_read.proofs.Holders.{held_below, held_in_file}
use Rattle.elf_read.proofs.held.held_at.Goals as goal

pub overflow_sub-result : goal.overflow_sub-result
overflow_sub-result c = held_below c.args.loads.now c.args.addr c.args.size c.in-Some.h.now c.in-Some.ensures

pub returns-in-Some-clause-in_file : goal.returns-in-Some-clause-in_file
returns-in-Some-clause-in_file c = held_in_file c.args.loads.now c.args.addr c.args.size c.in-Some.h.now c.in-Some.ensures
