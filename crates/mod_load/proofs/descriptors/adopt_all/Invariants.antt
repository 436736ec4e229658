use Rattle.std.proofs.Common.{take}
use Rattle.mod_load.proofs.EnteredAddresses.{AreAdopted}
use Rattle.mod_load.proofs.descriptors.adopt_all.Given as goal

-- the entries so far are adopted
abbrev pub invariant-loop-entry : goal.invariant-loop-entry
invariant-loop-entry l = AreAdopted (take l.entry-index l.adopted) l.entry-index l.fn.pool l.pool
