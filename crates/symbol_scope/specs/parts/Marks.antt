-- Marks of the modules that are found.
use Rattle.std.specs.Prelude.{◌≡◌, ℕ, ◌<◌, Bool, false, nat_eq, List, length, slice_index_or, count_by}
use Rattle.symbol_scope.specs.Closure.{has}

pub record IsMarked (seen : List Bool) (found : List ℕ) : Type 0 where
  pub size : length seen ≡ 64
  pub marks : (m : ℕ) → m < 64 → slice_index_or seen m false ≡ has nat_eq found m
  pub count : count_by (λ b. b) seen ≡ length found
