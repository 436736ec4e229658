use Rattle.std.proofs.Common.{◌≡◌, map, take}
use Rattle.link_model.specs.Inputs.{numbered}
use Rattle.link_model.specs.Joined.{definition_taken}
use Rattle.link_model.specs.Targets.{joined_target}
use Rattle.link_names.proofs.joined.targets_of.Given as goal

abbrev pub invariant-loop-k : goal.invariant-loop-k
invariant-loop-k l = l.targets ≡ map (λ e. joined_target l.mode l.inputs e.0 e.1 (definition_taken e.1)) (numbered (take l.k l.groups.groups))
