use Rattle.plt_code.specs.Table.{HasOffsets}
use Rattle.plt_code.proofs.table.slot_table.Given as goal

abbrev pub invariant-loop-k : goal.invariant-loop-k
invariant-loop-k l = HasOffsets l.got l.slots l.k l.table
