use Rattle.std.proofs.Common.{◌≡◌}
use Rattle.std.specs.Prelude.{replicate}
use Rattle.guest_mem.specs.Accesses.{with_bytes}
use Rattle.load_memory.proofs.bytes.clear_bytes.Given as goal

-- the zeros so far are put
abbrev pub invariant-loop-i : goal.invariant-loop-i
invariant-loop-i l = l.guest ≡ with_bytes l.fn.guest l.addr (replicate l.i 0)
