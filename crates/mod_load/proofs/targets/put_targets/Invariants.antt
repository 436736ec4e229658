use Rattle.std.proofs.Common.{◌≡◌, ◌+◌, List, Option, length, map, take, drop}
use Rattle.elf_model.specs.declared.func.Func.{Func}
use Rattle.load_model.specs.declared.module.Joining.{Joining}
use Rattle.mod_load.specs.parts.Targets.{AreKept}
use Rattle.mod_load.proofs.targets.put_targets.Given as goal

-- those of the modules so far were put in, and those of the others are left
abbrev pub invariant-loop-new : goal.invariant-loop-new
invariant-loop-new l = record {
  kept : (own : Joining → List (Option Func)) → l.fn.made ≡ map own l.joining → record {
    put : AreKept own (take l.new-index l.joining) l.fn.targets.items l.targets.items;
    left : l.left.rest.items ≡ map own (drop l.new-index l.joining);
  };
  size : length l.targets.items ≡ length l.fn.targets.items;
  count : length l.left.rest.items + l.new-index ≡ length l.joining;
}
