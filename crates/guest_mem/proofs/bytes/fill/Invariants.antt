use Rattle.std.proofs.Common.{◌≡◌}
use Rattle.guest_mem.specs.Ranges.{filled}
use Rattle.guest_mem.proofs.bytes.fill.Given as goal

abbrev pub invariant-loop-i : goal.invariant-loop-i
invariant-loop-i g l = l.values ≡ filled l.initial.values l.start l.i l.value
