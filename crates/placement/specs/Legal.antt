-- Where one item may lie.
use Rattle.std.specs.Prelude.{◌≡◌, ℕ, ◌+◌, ◌%◌, ◌≤◌, ◌⊎◌, List, min, max, All, MatchOption}
use Rattle.placement.specs.declared.item.Held.{Held}
use Rattle.placement.specs.declared.item.Item.{Item}

-- An item's unit: its alignment raised to at least 16 and cut to at most 4,096. A placed segment is
-- congruent to its link address modulo the alignment (System V gABI, "Program Loading"); both bounds are
-- this loader's own.
abbrev pub unit_of : ℕ → ℕ
unit_of align = min (max align 16) 4096

-- len bytes from at meet no byte of the held range
abbrev pub Apart : ℕ → ℕ → Held → Type 0
Apart at len r = (r.start + r.len ≤ at) ⊎ (at + len ≤ r.start)

-- the address is legal for the item where these ranges are held
pub record IsLegal (low high : ℕ) (held : List Held) (item : Item) (at : ℕ) : Type 0 where
  pub above : low ≤ at
  pub below : at + item.memsz ≤ high
  pub congruent : at % unit_of item.align ≡ item.vaddr % unit_of item.align
  pub apart : All (Apart at item.memsz) held

-- the item's address: the listed one, or else the least that is legal
pub record Chosen (low high : ℕ) (held : List Held) (item : Item) (at : ℕ) : Type 0 where
  pub legal : IsLegal low high held item at
  pub choice : MatchOption item.at ((b : ℕ) → IsLegal low high held item b → at ≤ b) (λ listed. at ≡ listed)

-- the listed address isn't legal, or no address is
abbrev pub HasNoRoom : ℕ → ℕ → List Held → Item → Type 0
HasNoRoom low high held item =
    MatchOption item.at ((b : ℕ) → ¬ IsLegal low high held item b) (λ listed. ¬ IsLegal low high held item listed)
