-- Held ranges in order.
use Rattle.std.specs.Prelude.{◌≤◌, List, AllPairs}
use Rattle.placement.specs.declared.item.Held.{Held}

abbrev pub AreRising : List Held → Type 0
AreRising held = AllPairs (λ earlier later. earlier.start ≤ later.start) held
