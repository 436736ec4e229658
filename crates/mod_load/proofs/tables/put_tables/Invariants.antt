use Rattle.std.proofs.Common.{◌≡◌, take, drop}
use Rattle.load_plan.specs.parts.Tables.{ArePut}
use Rattle.load_state.specs.Accepted.{tables_of}
use Rattle.mod_load.proofs.tables.put_tables.Given as goal

-- those of the modules so far were put in, and those of the others are left
abbrev pub invariant-loop-new : goal.invariant-loop-new
invariant-loop-new l = record {
  put : ArePut (take l.new-index l.joining) l.fn.tables.slots l.tables.slots;
  room : l.tables.room ≡ l.fn.tables.room;
  left : l.left.rest.items ≡ tables_of (drop l.new-index l.joining);
}
