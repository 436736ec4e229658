use Rattle.std.proofs.Common.{◌≡◌, drop}
use Rattle.load_model.specs.Walk.{joining_named}
use Rattle.load_process.proofs.numbers.joining_object.Given as goal

-- what is found is behind the first ones
abbrev pub invariant-loop-new : goal.invariant-loop-new
invariant-loop-new l = joining_named (drop l.new-index l.joining) l.name ≡ joining_named l.joining l.name
