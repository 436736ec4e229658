use Rattle.std.proofs.Common.{◌≡◌}
use Rattle.run_model.specs.Services.{bytes_from}
use Rattle.run_turn.proofs.bytes.copied.Given as goal

abbrev pub invariant-loop-i : goal.invariant-loop-i
invariant-loop-i l = l.bytes ≡ bytes_from l.guest l.addr l.i
