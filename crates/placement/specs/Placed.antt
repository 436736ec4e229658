-- The addresses that items get, and the item that gets none.
use Rattle.std.specs.Prelude.{ℕ, zero, suc, ◌+◌, ◌≤◌, List, [], ◌∷◌, ◌++◌}
use Rattle.placement.specs.declared.item.Held.{Held}
use Rattle.placement.specs.declared.item.Item.{Item}
use Rattle.placement.specs.Legal.{Chosen, HasNoRoom}

-- what an item holds at an address
abbrev pub range_at : Item → ℕ → Held
range_at item at = record { owner = item.owner; start = at; len = item.memsz }

-- each item has its address, where the ranges of the earlier items are held too
abbrev pub Placed : ℕ → ℕ → List Held → List Item → List ℕ → Type 0
Placed low high held [] [] = Unit {0}
Placed low high held [] (at ∷ addrs) = ⊥
Placed low high held (item ∷ items) [] = ⊥
Placed low high held (item ∷ items) (at ∷ addrs) =
    Chosen low high held item at × Placed low high (held ++ range_at item at ∷ []) items addrs

-- the items before item n, counted from 0, have addresses, and item n has none
abbrev pub FailsAt : ℕ → ℕ → List Held → List Item → ℕ → Type 0
FailsAt low high held [] n = ⊥
FailsAt low high held (item ∷ items) zero = HasNoRoom low high held item
FailsAt low high held (item ∷ items) (suc n) =
    (at : ℕ) × Chosen low high held item at × FailsAt low high (held ++ range_at item at ∷ []) items n

-- the item lies between these addresses
abbrev pub LiesWithin : ℕ → ℕ → Item → ℕ → Type 0
LiesWithin low high item at = (low ≤ at) × (at + item.memsz ≤ high)
