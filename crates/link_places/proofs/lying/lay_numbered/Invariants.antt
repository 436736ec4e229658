use Rattle.std.proofs.Common.{◌≡◌, ℕ, ◌≤◌, length, get_or, drop, take}
use Rattle.link_places.specs.parts.Lying.{numbered_end, numbered_place}
use Rattle.link_places.proofs.lying.lay_numbered.Given as goal

-- the sections from `left` on have their places
abbrev pub invariant-loop-left : goal.invariant-loop-left
invariant-loop-left l = record {
  within : l.left ≤ length l.numbered;
  len : length l.places.items ≡ l.count;
  placed : (k : ℕ) → get_or l.places.items k l.laid.end ≡ numbered_place (numbered_end l.from (take l.left l.numbered)) (drop l.left l.numbered) k;
}

abbrev pub decreases-loop-left : goal.decreases-loop-left
decreases-loop-left l = l.left
