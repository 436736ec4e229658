-- What a refusal says.
use Rattle.std.specs.Prelude.{ℕ, List}
use Rattle.placement.specs.declared.item.Held.{Held}
use Rattle.placement.specs.declared.item.Item.{Item}
use Rattle.placement.specs.declared.ranges.PlaceErr.{PlaceErr}
use Rattle.placement.specs.declared.ranges.PlaceErr.TheVariants.{NoRoom, Memory}
use Rattle.placement.specs.Placed.{FailsAt}

-- NoRoom names the item that fails; want of memory says nothing
abbrev pub RefusesItems : ℕ → ℕ → List Held → List Item → PlaceErr → Type 0
RefusesItems low high held items (NoRoom n) = FailsAt low high held items n
RefusesItems low high held items Memory = Unit {0}
