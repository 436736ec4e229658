use Rattle.std.proofs.Common.{◌≡◌, ◌++◌, drop}
use Rattle.std.specs.List.{flat_map}
use Rattle.elf_listing.specs.Listing.{needed_line}
use Rattle.elf_listing.proofs.object.put_needed.Given as goal

abbrev pub invariant-loop-name : goal.invariant-loop-name
invariant-loop-name l = l.out ++ flat_map needed_line (drop l.name-index l.names) ≡ l.fn.out ++ flat_map needed_line l.names
