-- Modules that go from a process without addresses.
use Rattle.std.specs.Prelude.{◌≡◌, ℕ, Bool, true, false, not, List, map, filter, Option, Some, None, Contains, if◌then◌else◌}
use Rattle.std.specs.List.{enumerate_from}
use Rattle.load_model.specs.declared.module.Live.{Live}
use Rattle.load_model.specs.declared.module.SymbolicProcess.{SymbolicProcess}
use Rattle.load_model.specs.Process.{live_at, is_live, group_scope}

-- a set of module numbers
abbrev pub ModuleSet : Type 0
ModuleSet = ℕ → Bool

-- what a table by number has left
abbrev pub places_left : {X : Type 0} → ModuleSet → List (Option X) → List (Option X)
places_left gone places = map (λ e. if gone e.0 then None else e.1) (enumerate_from 0 places)

-- the others, with their groups: the number of a group is that of a member
abbrev pub process_without : ModuleSet → SymbolicProcess → SymbolicProcess
process_without gone p = record {
  modules = places_left gone p.modules;
  groups = places_left gone p.groups;
  global = filter (λ m. not (gone m)) p.global;
}

-- These are live modules in whole groups, and no module that stays looks its symbols up in one.
pub record MayGo (p : SymbolicProcess) (gone : ModuleSet) : Type 0 where
  pub live : (m : ℕ) → gone m ≡ true → is_live p m ≡ true
  pub groups' : (m : ℕ) (live : Live) → live_at p m ≡ Some live → gone live.group ≡ gone m
  pub alone : (m n : ℕ) → is_live p m ≡ true → gone m ≡ false → Contains (group_scope p m) n → gone n ≡ false
