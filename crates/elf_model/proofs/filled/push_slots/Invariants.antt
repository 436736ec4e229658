use Rattle.std.proofs.Common.{◌≡◌, ◌++◌, drop}
use Rattle.elf_model.specs.Filled.{slot_sites}
use Rattle.elf_model.proofs.filled.push_slots.Given as goal

-- with those of the slots that are left they are all
abbrev pub invariant-loop-k : goal.invariant-loop-k
invariant-loop-k l = l.sites ++ slot_sites l.k (drop l.k l.slots) ≡ l.initial.sites ++ slot_sites 0 l.slots
