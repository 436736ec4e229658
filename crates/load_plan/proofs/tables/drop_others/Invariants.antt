use Rattle.std.proofs.Common.{◌≡◌}
use Rattle.load_plan.proofs.TableSteps.{IsDropped}
use Rattle.load_plan.proofs.tables.drop_others.Given as goal

-- those below were looked at
abbrev pub invariant-loop-m : goal.invariant-loop-m
invariant-loop-m l = record {
  dropped : IsDropped l.process l.m l.tables.slots;
  room : l.tables.room ≡ l.fn.tables.room;
}
