use Rattle.std.proofs.Common.{◌≡◌, take}
use Rattle.link_model.specs.Joined.{joined_of}
use Rattle.link_names.specs.parts.Grouped.{groups_of}
use Rattle.link_names.proofs.groups.Groups.of.Given as goal

abbrev pub invariant-loop-input : goal.invariant-loop-input
invariant-loop-input l = l.groups ≡ groups_of (joined_of (take l.input l.inputs))
