use Rattle.std.proofs.Common.{◌≡◌, ◌++◌, drop}
use Rattle.std.specs.List.{filter_map, zip}
use Rattle.load_sites.specs.parts.Descriptors.{private_by, privates_by}
use Rattle.load_sites.proofs.private.add_privates.Given as goal

-- with those of the sites that are left they are all
abbrev pub invariant-loop-i : goal.invariant-loop-i
invariant-loop-i l = l.found ++ filter_map (private_by l.o) (zip (drop l.i l.o.rels) (drop l.i l.values)) ≡ l.initial.found ++ privates_by l.o l.values
