use Rattle.std.proofs.Common.{◌≡◌, ℕ, ◌%◌, ◌^◌, ◌<◌, ◌≤◌, All, take}
use Rattle.placement.specs.Legal.{Apart}
use Rattle.placement.proofs.Rising.{HavePassed}
use Rattle.placement.proofs.search.least_apart.Given as goal

-- the ranges so far end at or before at, and no lower number does
abbrev pub invariant-loop-range : goal.invariant-loop-range
invariant-loop-range l = record {
  small : l.at < 2 ^ 34;
  above : l.low ≤ l.at;
  congruent : l.at % l.unit ≡ l.residue;
  passed : HavePassed l.at (take l.range-index l.held);
  least : (b : ℕ) → l.low ≤ b → b % l.unit ≡ l.residue → All (Apart b l.len) l.held → l.at ≤ b;
}
