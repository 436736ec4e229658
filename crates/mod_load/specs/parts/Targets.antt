-- The functions of slots, kept by the numbers of their modules.
use Rattle.std.specs.Prelude.{◌≡◌, ◌≢◌, ℕ, List, [], length, get_or, slice_get, Option, option_and_then, All}
use Rattle.std.specs.Option.{option_map_or}
use Rattle.elf_model.specs.declared.func.Func.{Func}
use Rattle.symbol_scope.specs.declared.tables.TheConstants.{MAX_MODULES}
use Rattle.load_model.specs.declared.module.Joining.{Joining}
use Rattle.load_model.specs.declared.module.SymbolicProcess.{SymbolicProcess}
use Rattle.load_model.specs.Linkage.{linkage_of}
use Rattle.load_model.specs.Process.{object_at}
use Rattle.load_state.specs.Slots.{targets_of}

abbrev pub AllTargets : Type 0
AllTargets = List (List (Option Func))

-- those of a module; of a number without a module there are none
abbrev pub targets_in : SymbolicProcess → ℕ → List (Option Func)
targets_in p m = option_map_or (targets_of (linkage_of p) m) (object_at p m) []

-- those of each module are kept
pub record HasTargets (p : SymbolicProcess) (targets : AllTargets) : Type 0 where
  pub size : length targets ≡ MAX_MODULES
  pub each : (m : ℕ) → get_or targets m [] ≡ targets_in p m

-- the function that is kept for slot k of module m
abbrev pub target_in : AllTargets → ℕ → ℕ → Option Func
target_in targets m k = option_and_then (λ own. option_and_then (λ target. target) (slice_get own k)) (slice_get targets m)

-- Each of these modules has its own, and where none of them has its number what is kept stays.
pub record AreKept (own : Joining → List (Option Func)) (joining : List Joining) (old new : AllTargets) : Type 0 where
  pub size : length new ≡ length old
  pub each : All (λ j. get_or new j.number [] ≡ own j) joining
  pub others : (m : ℕ) → All (λ j. j.number ≢ m) joining → get_or new m [] ≡ get_or old m []
