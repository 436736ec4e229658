-- Calls that are counted, of which some are named to fail.
use Rattle.std.specs.Prelude.{ℕ, ◌+◌, ◌-◌, ◌^◌, ◌==◌, ◌∷◌, [], ◌++◌, nat_lt, List, Bool, if◌then◌else◌}
use Rattle.std.specs.List.{list_any}

pub record Calls : Type 0 where
  -- how many were made
  pub made : ℕ
  -- the numbers of those that fail, where the first call has number 1
  pub failing : List ℕ
  -- how many have failed
  pub faults : ℕ

-- one more, up to the last number of 64 bits
abbrev pub one_more : ℕ → ℕ
one_more n = if nat_lt n (2 ^ 64 - 1) then n + 1 else n

-- none made, and none named to fail
abbrev pub no_calls : Calls
no_calls = record { made = 0; failing = []; faults = 0 }

-- whether the next call is one of those that fail
abbrev pub fails_next : Calls → Bool
fails_next calls = list_any (λ number. number == one_more calls.made) calls.failing

-- with the next call made
abbrev pub with_call : Calls → Calls
with_call calls = record {
  made = one_more calls.made;
  failing = calls.failing;
  faults = if fails_next calls then one_more calls.faults else calls.faults;
}

-- with one more number of a call that fails
abbrev pub with_failing : ℕ → Calls → Calls
with_failing number calls = record { made = calls.made; failing = calls.failing ++ number ∷ []; faults = calls.faults }
