use Rattle.std.proofs.Common.{◌≡◌, [], replicate}
use Rattle.mod_load.proofs.loader.empty_lists.Given as goal

-- the lists so far
abbrev pub invariant-loop : goal.invariant-loop
invariant-loop g l = l.lists ≡ replicate l.counter []
