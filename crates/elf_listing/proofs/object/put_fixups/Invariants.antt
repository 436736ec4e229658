use Rattle.std.proofs.Common.{◌≡◌, ◌++◌, drop}
use Rattle.elf_listing.specs.Listing.{fixup_line}
use Rattle.fd_base.specs.Fields.{numbered}
use Rattle.elf_listing.proofs.object.put_fixups.Given as goal

abbrev pub invariant-loop-i : goal.invariant-loop-i
invariant-loop-i l = l.out ++ numbered fixup_line l.i (drop l.i l.sites) ≡ l.fn.out ++ numbered fixup_line 0 l.sites
