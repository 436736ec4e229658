use Rattle.std.proofs.Common.{List}
use Rattle.guest_mem.specs.parts.Kept.{Keeps}
use Rattle.load_map.specs.declared.entry.MapEntry.{MapEntry}
use Rattle.load_model.specs.declared.module.SymbolicProcess.{SymbolicProcess}
use Rattle.run_turn.specs.parts.Lookups.{AreClear}
use Rattle.run_turn.specs.parts.QuietSteps.{GoQuietly, machine_of}
use Rattle.run_turn.proofs.quiet.walk_on.Given as goal

-- the steps so far are quiet
abbrev pub invariant-loop-quiet : goal.invariant-loop-quiet
invariant-loop-quiet l = record {
  walked : (p : SymbolicProcess) (maps : List (List MapEntry)) → AreClear p maps l.clear → GoQuietly p maps l.quiet (machine_of l.fn.cpu l.fn.guest) (machine_of l.cpu l.guest);
  keeps : Keeps l.fn.guest l.guest;
}
