use Rattle.std.proofs.Common.{◌≡◌, None}
use Rattle.std.specs.Prelude.{find}
use Rattle.std.specs.List.{range_with_len}
use Rattle.mod_load.specs.parts.Accessors.{lies_in}
use Rattle.mod_load.proofs.accessors.first_at.Given as goal

-- no module so far lies there
abbrev pub invariant-loop-m : goal.invariant-loop-m
invariant-loop-m l = find (lies_in l.maps l.addr) (range_with_len 0 l.m) ≡ None
