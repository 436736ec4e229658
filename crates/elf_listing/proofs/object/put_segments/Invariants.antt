use Rattle.std.proofs.Common.{◌≡◌, ◌++◌, drop}
use Rattle.elf_listing.specs.Listing.{segment_line}
use Rattle.fd_base.specs.Fields.{numbered}
use Rattle.elf_listing.proofs.object.put_segments.Given as goal

abbrev pub invariant-loop-i : goal.invariant-loop-i
invariant-loop-i l = l.out ++ numbered segment_line l.i (drop l.i l.segments) ≡ l.fn.out ++ numbered segment_line 0 l.segments
