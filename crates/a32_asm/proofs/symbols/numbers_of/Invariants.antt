use Rattle.std.proofs.Common.{◌≡◌, ◌+◌, ◌≤◌, length, drop}
use Rattle.a32_asm.specs.parts.Numbered.{AreNumbers}
use Rattle.a32_asm.proofs.symbols.numbers_of.Given as goal

abbrev pub invariant-loop-i : goal.invariant-loop-i
invariant-loop-i l = record {
  each : length l.numbers.items ≡ l.count;
  inside : l.i ≤ length l.places;
  numbers : AreNumbers (1 + l.i) (drop l.i l.places) l.numbers.items;
}

abbrev pub decreases-loop-i : goal.decreases-loop-i
decreases-loop-i l = l.i
