-- Load maps that are entered one after another.
use Rattle.std.proofs.Common.{◌≡◌, ℕ, ◌+◌, List, length, drop}
use Rattle.std.specs.Prelude.{sum_by}
use Rattle.load_map.specs.declared.entry.MapEntry.{MapEntry}
use Rattle.load_model.specs.declared.module.Joining.{Joining}
use Rattle.load_state.specs.Accepted.{maps_after}

abbrev pub count_of : Joining → ℕ
count_of j = length j.object.segments

-- the maps so far lead to those that are wanted, and the addresses that are left are those of the modules that are left
pub record IsEntered (maps : List (List MapEntry)) (joining : List Joining) (addrs : List ℕ) (i from : ℕ) (after : List (List MapEntry)) : Type 0 where
  pub maps' : maps_after after (drop i joining) (drop from addrs) ≡ maps_after maps joining addrs
  pub left : sum_by count_of (drop i joining) + from ≡ length addrs
  pub size : length after ≡ length maps
