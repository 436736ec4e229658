-- Which groups stay: a group holds each group with a module in its scope, and whatever is held from the program or from an
-- opened module stays. That groups hold each other so is this loader's own.
use Rattle.std.specs.Prelude.{◌≡◌, ◌⊎◌, ℕ, ◌<◌, Bool, true, false, ◌==◌, List, [], ◌∷◌, Some}
use Rattle.std.specs.Option.{option_map_or}
use Rattle.std.specs.List.{list_any}
use Rattle.load_model.specs.declared.module.Group.{Group}
use Rattle.load_model.specs.declared.module.Live.{Live}
use Rattle.load_model.specs.declared.module.SymbolicProcess.{SymbolicProcess}
use Rattle.load_model.specs.Process.{group_at, live_at}

abbrev pub is_in_group : SymbolicProcess → ℕ → ℕ → Bool
is_in_group p g m = option_map_or (λ live. live.group == g) (live_at p m) false

-- group g holds group h
abbrev pub holds : SymbolicProcess → ℕ → ℕ → Bool
holds p g h = option_map_or (λ group. list_any (is_in_group p h) group.scope) (group_at p g) false

-- a way from one group to another, each of which holds the next
abbrev pub IsWay : SymbolicProcess → ℕ → List ℕ → ℕ → Type 0
IsWay p g [] h = g ≡ h
IsWay p g (next ∷ way) h = (holds p g next ≡ true) × IsWay p next way h

-- an opened module of a group
pub record IsOpened (p : SymbolicProcess) (g : ℕ) : Type 0 where
  pub number : ℕ
  pub live : Live
  pub there : live_at p number ≡ Some live
  pub group' : live.group ≡ g
  pub opened : 0 < live.opens

-- the program's group, and that of each opened module, hold what they do for themselves
abbrev pub IsRoot : SymbolicProcess → ℕ → Type 0
IsRoot p g = (g ≡ 0) ⊎ IsOpened p g

-- there is a way to the group from such a one
pub record Stays (p : SymbolicProcess) (g : ℕ) : Type 0 where
  pub root : ℕ
  pub first : IsRoot p root
  pub way : List ℕ
  pub leads : IsWay p root way g

-- every live group is held
abbrev pub AreHeld : SymbolicProcess → Type 0
AreHeld p = (g : ℕ) (group : Group) → group_at p g ≡ Some group → Stays p g
