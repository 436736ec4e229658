-- Slots with marks, and the list of the free ones.
use Rattle.std.specs.Prelude.{ℕ, ◌+◌, ◌*◌, ◌^◌, ◌<◌, ◌≤◌, Bool, true, false, List, [], ◌∷◌, length}
use Rattle.func_desc.specs.Pool.{slot_addr}

pub record Slots : Type 0 where
  -- the address of the first
  pub base : ℕ
  -- one for each slot
  pub marks : List Bool
  -- the addresses of the free ones
  pub free : List ℕ

-- the addresses of the slots from number i on that have no mark
abbrev pub unmarked : ℕ → ℕ → List Bool → List ℕ
unmarked base i [] = []
unmarked base i (false ∷ marks) = slot_addr base i ∷ unmarked base (i + 1) marks
unmarked base i (true ∷ marks) = unmarked base (i + 1) marks

-- `count` addresses are listed, with room for `capacity`
pub record IsListed (base : ℕ) (marks : List Bool) (count capacity taken : ℕ) : Type 0 where
  -- the slots end below 2^32
  pub end : base + 8 * length marks < 2 ^ 32
  pub few : count ≤ length marks
  pub room : length marks ≤ capacity
  pub within : taken ≤ count
