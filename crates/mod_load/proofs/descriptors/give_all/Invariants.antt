use Rattle.std.proofs.Common.{take}
use Rattle.mod_load.proofs.EnteredAddresses.{AreGiven}
use Rattle.mod_load.proofs.descriptors.give_all.Given as goal

-- the functions so far have their slots
abbrev pub invariant-loop-entry : goal.invariant-loop-entry
invariant-loop-entry l = AreGiven (take l.entry-index l.given) l.entry-index l.fn.pool l.pool
