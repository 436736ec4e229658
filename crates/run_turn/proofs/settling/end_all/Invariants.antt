use Rattle.std.proofs.Common.{◌≡◌, length}
use Rattle.run_turn.proofs.EmptiedPlaces.{emptied}
use Rattle.run_turn.proofs.settling.end_all.Given as goal

abbrev pub invariant-loop-i : goal.invariant-loop-i
invariant-loop-i l = record {
  emptied : l.threads ≡ emptied l.fn.threads l.i;
  size : length l.threads ≡ length l.fn.threads;
}
