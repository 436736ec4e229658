use Rattle.std.proofs.Common.{◌≡◌, [], take, get_or, None}
use Rattle.std.specs.List.{flat_map}
use Rattle.elf_model.specs.Test.{first_failing}
use Rattle.link_model.specs.Inputs.{numbered}
use Rattle.link_names.specs.parts.Grouped.{group_tests}
use Rattle.link_names.proofs.refusals.test_names.Given as goal

-- no test of the names so far fails
abbrev pub invariant-loop-k : goal.invariant-loop-k
invariant-loop-k l = first_failing (flat_map (λ e. group_tests l.mode (get_or l.groups.names e.0 []) e.1) (numbered (take l.k l.groups.groups))) ≡ None
