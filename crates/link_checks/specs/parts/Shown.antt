-- The symbols that the loader sees, with their numbers.
use Rattle.std.specs.Prelude.{◌≡◌, ℕ, ◌+◌, List, get_or, slice_get, position, Some, unwrap_or}
use Rattle.link_model.specs.declared.target.Key.{Key}
use Rattle.link_model.specs.declared.target.Key.TheVariants.{Name, Own}
use Rattle.link_model.specs.declared.target.Target.{Target}
use Rattle.link_model.specs.Targets.{is_same_key}

-- the number of a symbol among these: the null symbol comes first
abbrev pub number_in : List Target → Key → ℕ
number_in targets key = 1 + unwrap_or (position (λ t. is_same_key key t.key) targets) 0

-- the numbers of names, and 1 for a symbol that isn't among these
pub record AreNumbered (targets : List Target) (numbers : List ℕ) : Type 0 where
  pub named : (k : ℕ) → get_or numbers k 1 ≡ number_in targets (Name k)
  pub own : (i n : ℕ) → number_in targets (Own i n) ≡ 1

-- the symbols of all names, by the numbers of these
pub record AreNamed (targets : List Target) : Type 0 where
  pub each : (k : ℕ) (t : Target) → slice_get targets k ≡ Some t → t.key ≡ Name k
