use Rattle.std.proofs.Common.{◌≡◌, map, take}
use Rattle.load_model.specs.Definition.{Linkage}
use Rattle.load_sites.specs.parts.Values.{IsValues}
use Rattle.load_state.specs.Slots.{targets_of}
use Rattle.load_plan.proofs.targets.targets.Given as goal

-- those of the modules so far
abbrev pub invariant-loop-i : goal.invariant-loop-i
invariant-loop-i l = (k : Linkage) → IsValues k l.joining l.values → l.all ≡ map (λ j. targets_of k j.number j.object) (take l.i l.joining)
