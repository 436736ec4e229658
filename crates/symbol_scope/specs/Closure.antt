-- The order in which shared objects are loaded and searched (gABI, "Shared Object Dependencies"): breadth first over
-- what each one needs, and each once.
use Rattle.std.specs.Prelude.{◌≡◌, ℕ, zero, suc, Bool, List, [], ◌∷◌, ◌++◌, All, Contains, if◌then◌else◌}
use Rattle.std.specs.List.{flat_map, list_any}

-- whether a value is in the list
abbrev pub has : {X : Type 0} → (X → X → Bool) → List X → X → Bool
has same xs x = list_any (same x) xs

-- the list with a value behind it that wasn't there yet
abbrev pub with_one : {X : Type 0} → (X → X → Bool) → List X → X → List X
with_one same xs x = if has same xs x then xs else xs ++ x ∷ []

-- the list, and then each value of the other that wasn't there yet
abbrev pub with_new : {X : Type 0} → (X → X → Bool) → List X → List X → List X
with_new same seen [] = seen
with_new same seen (x ∷ xs) = with_new same (with_one same seen x) xs

-- each value at its first place
abbrev pub firsts : {X : Type 0} → (X → X → Bool) → List X → List X
firsts same xs = with_new same [] xs

-- x is reached from the roots over n needs
abbrev pub Reaches : {X : Type 0} → (X → List X) → List X → X → ℕ → Type 0
Reaches needs roots x zero = Contains roots x
Reaches {X} needs roots x (suc n) = (via : X) × Reaches needs roots via n × Contains (needs via) x

abbrev pub IsReached : {X : Type 0} → (X → List X) → List X → X → Type 0
IsReached needs roots x = (n : ℕ) × Reaches needs roots x n

-- The members are the roots and then what the members need, in the members' own order, each at its first place; and
-- nothing is a member that isn't reached from the roots.
pub record IsClosure {X : Type 0} (same : X → X → Bool) (needs : X → List X) (roots members : List X) : Type 0 where
  pub order : members ≡ firsts same (roots ++ flat_map needs members)
  pub reached : All (IsReached needs roots) members
