-- Why new segments have no places.
use Rattle.std.specs.Prelude.{List}
use Rattle.placement.specs.declared.item.Item.{Item}
use Rattle.placement.specs.Placed.{FailsAt}
use Rattle.placement.specs.Space.{Space}
use Rattle.load_model.specs.declared.error.LoadErr.{LoadErr}
use Rattle.load_model.specs.declared.error.LoadErr.TheVariants.{Refused, Memory}
use Rattle.load_model.specs.declared.error.LoadRefusal.TheVariants.{NoRoom}

abbrev pub IsUnplaced : Space → List Item → LoadErr → Type 0
IsUnplaced space items (Refused (NoRoom i)) = FailsAt space.low space.high space.held items i
IsUnplaced space items Memory = Unit {0}
IsUnplaced space items other = ⊥
