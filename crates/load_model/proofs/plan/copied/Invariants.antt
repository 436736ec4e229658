use Rattle.std.proofs.Common.{◌≡◌, take}
use Rattle.load_model.proofs.plan.copied.Given as goal

abbrev pub invariant-loop-line : goal.invariant-loop-line
invariant-loop-line l = l.places ≡ take l.line-index l.lines
