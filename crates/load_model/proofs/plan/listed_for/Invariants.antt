use Rattle.std.proofs.Common.{◌≡◌, drop}
use Rattle.load_model.specs.Plan.{listed_for}
use Rattle.load_model.proofs.plan.listed_for.Given as goal

-- no line so far has the name
abbrev pub invariant-loop-line : goal.invariant-loop-line
invariant-loop-line l = listed_for (drop l.line-index l.lines) l.name ≡ listed_for l.lines l.name
