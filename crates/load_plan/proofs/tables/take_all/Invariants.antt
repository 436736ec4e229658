use Rattle.std.proofs.Common.{◌≡◌, take, drop, All}
use Rattle.load_state.specs.Accepted.{tables_of}
use Rattle.load_plan.specs.parts.Tables.{HasTable, HasTables}
use Rattle.load_plan.proofs.tables.take_all.Given as goal

-- those of the modules so far were taken, and the later ones have theirs
abbrev pub invariant-loop-new : goal.invariant-loop-new
invariant-loop-new l = record {
  taken : l.taken ≡ tables_of (take l.new-index l.joining);
  left : All (HasTable l.tables.slots) (drop l.new-index l.joining);
  live : HasTables l.process l.tables.slots;
  room : l.tables.room ≡ l.fn.tables.room;
}
