use Rattle.std.proofs.Common.{◌≡◌, ◌-◌}
use Rattle.guest_mem.specs.Memory.{is_mapped_as}
use Rattle.guest_mem.specs.Accesses.{first_outside}
use Rattle.run_turn.proofs.bytes.first_unmapped.Given as goal

-- the rest of the search gives the answer
abbrev pub invariant-loop : goal.invariant-loop
invariant-loop l = first_outside is_mapped_as l.guest l.at (l.len - l.counter) ≡ first_outside is_mapped_as l.guest l.addr l.len
