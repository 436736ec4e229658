use Rattle.std.proofs.Common.{◌≡◌, ◌++◌, drop}
use Rattle.elf_listing.specs.RelListing.{section_lines}
use Rattle.fd_base.specs.Fields.{numbered}
use Rattle.elf_listing.proofs.relocatable.put_sections.Given as goal

abbrev pub invariant-loop-i : goal.invariant-loop-i
invariant-loop-i l = l.out ++ numbered section_lines l.i (drop l.i l.sections) ≡ l.fn.out ++ numbered section_lines 0 l.sections
