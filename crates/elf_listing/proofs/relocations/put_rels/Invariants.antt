use Rattle.std.proofs.Common.{◌≡◌, ◌++◌, drop}
use Rattle.elf_listing.specs.Listing.{rel_line}
use Rattle.fd_base.specs.Fields.{numbered}
use Rattle.elf_listing.proofs.relocations.put_rels.Given as goal

abbrev pub invariant-loop-i : goal.invariant-loop-i
invariant-loop-i l = l.out ++ numbered (rel_line l.table) l.i (drop l.i l.rels) ≡ l.fn.out ++ numbered (rel_line l.table) 0 l.rels
