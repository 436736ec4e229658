use Rattle.plt_code.specs.parts.Scanned.{IsNext}
use Rattle.plt_code.proofs.listing.next_text.Given as goal

abbrev pub invariant-loop-i : goal.invariant-loop-i
invariant-loop-i l = IsNext l.segments l.from l.i l.next
