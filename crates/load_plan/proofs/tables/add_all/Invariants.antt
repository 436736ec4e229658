use Rattle.std.proofs.Common.{◌<◌, ◌≤◌, take, All}
use Rattle.load_plan.specs.parts.Tables.{ArePut}
use Rattle.load_plan.proofs.tables.add_all.Given as goal

-- those of the modules so far were added
abbrev pub invariant-loop-new : goal.invariant-loop-new
invariant-loop-new l = record {
  put : ArePut (take l.new-index l.joining) l.fn.tables.slots l.tables.slots;
  room : All (λ j. j.number < l.tables.room) (take l.new-index l.joining);
  grows : l.fn.tables.room ≤ l.tables.room;
}
