use Rattle.std.proofs.Common.{◌-◌, ◌^◌}
use Rattle.plt_code.specs.parts.Scanned.{IsParted, ListsBelow}
use Rattle.plt_code.proofs.listing.entries.Given as goal

abbrev pub invariant-loop-i : goal.invariant-loop-i
invariant-loop-i l = record {
  parted : IsParted l.o.segments l.from;
  listed : ListsBelow l.o l.from l.found;
}

abbrev pub decreases-loop-i : goal.decreases-loop-i
decreases-loop-i l = 2 ^ 32 - l.from
