-- The ranges that are held between two addresses.
use Rattle.std.specs.Prelude.{ℕ, ◌<◌, ◌↔◌, List, [], ◌∷◌, All, Contains, nat_lt, if◌then◌else◌}
use Rattle.placement.specs.declared.item.Held.{Held}
use Rattle.placement.specs.declared.item.Item.{Item}
use Rattle.placement.specs.Legal.{Apart}
use Rattle.placement.specs.Placed.{Placed, range_at}

-- What is held, by rising start, between which addresses, and for how many more ranges there is room.
pub record Space : Type 0 where
  pub low : ℕ
  pub high : ℕ
  pub held : List Held
  pub room : ℕ

-- owners are numbers below 512
abbrev pub IsOwned : Item → Type 0
IsOwned item = item.owner < 512

-- one more range, before the first that doesn't start below it
abbrev pub held_with : Held → List Held → List Held
held_with range [] = range ∷ []
held_with range (first ∷ held) =
    if nat_lt first.start range.start then first ∷ held_with range held else range ∷ first ∷ held

-- the ranges of all these items besides
abbrev pub all_held : List Item → List ℕ → List Held → List Held
all_held [] addrs held = held
all_held (item ∷ items) [] held = held
all_held (item ∷ items) (at ∷ addrs) held = all_held items addrs (held_with (range_at item at) held)

-- the items' addresses in this space
abbrev pub IsPlaced : Space → List Item → List ℕ → Type 0
IsPlaced space items addrs = Placed space.low space.high space.held items addrs

-- no two ranges share a byte
abbrev pub AreApart : List Held → Type 0
AreApart [] = Unit {0}
AreApart (range ∷ held) = All (Apart range.start range.len) held × AreApart held

-- the same ranges, in any order
abbrev pub SameRanges : List Held → List Held → Type 0
SameRanges xs ys = (r : Held) → Contains xs r ↔ Contains ys r

-- the ranges of items at their addresses
abbrev pub ranges_at : List Item → List ℕ → List Held
ranges_at [] addrs = []
ranges_at (item ∷ items) [] = []
ranges_at (item ∷ items) (at ∷ addrs) = range_at item at ∷ ranges_at items addrs
