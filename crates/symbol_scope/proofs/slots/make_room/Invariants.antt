use Rattle.std.proofs.Common.{◌≡◌, ◌≤◌, ◌-◌, length}
use Rattle.symbol_scope.specs.parts.Slots.{filled_up}
use Rattle.symbol_scope.proofs.slots.make_room.Given as goal

abbrev pub invariant-loop-slots : goal.invariant-loop-slots
invariant-loop-slots l = record {
  within : length l.slots.items ≤ 64;
  grows : length l.fn.slots.items ≤ length l.slots.items;
  stays : filled_up l.slots.items ≡ filled_up l.fn.slots.items;
}

abbrev pub decreases-loop-slots : goal.decreases-loop-slots
decreases-loop-slots l = l.len - length l.slots.items
