-- A process after a load: the new modules are one new group, whose scope is fixed from now on.
use Rattle.std.specs.Prelude.{ℕ, Bool, ◌||◌, List, [], ◌∷◌, map, set, Option, Some, if◌then◌else◌, is_none}
use Rattle.std.specs.List.{list_all}
use Rattle.load_model.specs.declared.module.Group.{Group}
use Rattle.load_model.specs.declared.module.Joining.{Joining}
use Rattle.load_model.specs.declared.module.Live.{Live}
use Rattle.load_model.specs.declared.module.SymbolicProcess.{SymbolicProcess}
use Rattle.load_model.specs.Unbound.{unbound_at_first}

-- what a load is asked for: whether the global list is to gain the new modules, and whether their slots may stay unbound
-- until they are called
pub record Asked : Type 0 where
  pub global : Bool
  pub lazy : Bool

-- a new module of a group, which nobody has opened yet
abbrev pub live_from : Bool → ℕ → Joining → Live
live_from lazy group j = record { name = j.name; object = j.object; group = group; opens = 0; unbound = unbound_at_first lazy j.object }

-- the flags of new modules, in order
abbrev pub flags_of : Bool → List Joining → List (List Bool)
flags_of lazy joining = map (λ j. unbound_at_first lazy j.object) joining

abbrev pub modules_after : List (Option Live) → Bool → ℕ → List Joining → List (Option Live)
modules_after modules lazy group [] = modules
modules_after modules lazy group (j ∷ joining) = modules_after (set modules j.number (Some (live_from lazy group j))) lazy group joining

-- the number of the new group: that of its first module
abbrev pub group_of : List Joining → ℕ
group_of [] = 0
group_of (j ∷ joining) = j.number

abbrev pub groups_after : List (Option Group) → List Joining → List ℕ → List (Option Group)
groups_after groups [] scope = groups
groups_after groups (j ∷ joining) scope = set groups j.number (Some (record { scope = scope }))

-- whether no module is live
abbrev pub is_empty : SymbolicProcess → Bool
is_empty p = list_all (λ place. is_none place) p.modules

-- The global list after a load: with the first load, and where it is asked for, it gains the members of the root's
-- closure that it hasn't; that is what the scope of new modules is.
abbrev pub global_after : SymbolicProcess → Bool → List ℕ → List ℕ
global_after p asked scope = if asked || is_empty p then scope else p.global

abbrev pub process_after : SymbolicProcess → Bool → List Joining → List ℕ → List ℕ → SymbolicProcess
process_after p lazy joining scope global = record {
  modules = modules_after p.modules lazy (group_of joining) joining;
  groups = groups_after p.groups joining scope;
  global = global;
}
