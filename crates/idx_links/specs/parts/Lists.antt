-- Lists of nodes by their numbers.
use Rattle.std.specs.Prelude.{◌≡◌, ◌≢◌, ℕ, List, [], AllPairs, Contains, slice_index_or}

pub record Lists : Type 0 where
  pub lists : List (List ℕ)
  -- the numbers below this one have room
  pub nodes : ℕ

abbrev pub list_at : List (List ℕ) → ℕ → List ℕ
list_at lists l = slice_index_or lists l []

-- a number stands in one list at most, and there once
pub record AreApart (lists : List (List ℕ)) : Type 0 where
  pub apart : (l m id : ℕ) → Contains (list_at lists l) id → Contains (list_at lists m) id → l ≡ m
  pub once : (l : ℕ) → AllPairs ◌≢◌ (list_at lists l)
