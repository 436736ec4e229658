use Rattle.std.proofs.Common.{◌≡◌, take}
use Rattle.load_plan.specs.parts.Targets.{functions_of}
use Rattle.load_plan.proofs.targets.functions_of.Given as goal

-- the functions so far
abbrev pub invariant-loop-value : goal.invariant-loop-value
invariant-loop-value l = l.functions ≡ functions_of (take l.value-index l.pairs)
