use Rattle.std.proofs.Common.{◌≡◌, take}
use Rattle.load_model.specs.Joined.{flags_of}
use Rattle.load_plan.proofs.filling.flags.Given as goal

-- the flags of the modules so far
abbrev pub invariant-loop-new : goal.invariant-loop-new
invariant-loop-new l = l.flags ≡ flags_of l.lazy (take l.new-index l.joining)
