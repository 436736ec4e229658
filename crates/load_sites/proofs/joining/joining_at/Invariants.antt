use Rattle.std.proofs.Common.{◌≡◌, drop}
use Rattle.load_model.specs.Linkage.{joining_at}
use Rattle.load_sites.proofs.joining.joining_at.Given as goal

-- no module so far has the number
abbrev pub invariant-loop-new : goal.invariant-loop-new
invariant-loop-new l = joining_at (drop l.new-index l.joining) l.m ≡ joining_at l.joining l.m
