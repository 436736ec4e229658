-- What the symbols of a process are looked up in, before a load and with the modules that it adds.
use Rattle.std.specs.Prelude.{ℕ, Bool, ◌==◌, List, map, Option, is_some, option_map, if◌then◌else◌, nat_eq}
use Rattle.std.specs.Option.{option_or}
use Rattle.std.specs.List.{find, filter_map}
use Rattle.symbol_scope.specs.Closure.{with_new}
use Rattle.load_model.specs.declared.module.Joining.{Joining}
use Rattle.load_model.specs.declared.module.SymbolicProcess.{SymbolicProcess}
use Rattle.load_model.specs.Definition.{Linkage}
use Rattle.load_model.specs.Process.{object_at, group_scope}
use Rattle.load_model.specs.Sites.{Member}
use Rattle.load_model.specs.Walk.{number_among}

-- the live modules, each with the scope of its group
abbrev pub linkage_of : SymbolicProcess → Linkage
linkage_of p = record { objects = object_at p; scopes = group_scope p }

-- the new module of a number
abbrev pub joining_at : List Joining → ℕ → Option Joining
joining_at joining m = find (λ j. j.number == m) joining

abbrev pub joins : List Joining → ℕ → Bool
joins joining m = is_some (joining_at joining m)

-- the same with new modules, all of which have one scope
abbrev pub linkage_with : SymbolicProcess → List Joining → List ℕ → Linkage
linkage_with p joining scope = record {
  objects = λ m. option_or (option_map (λ j. j.object) (joining_at joining m)) (object_at p m);
  scopes = λ m. if joins joining m then scope else group_scope p m;
}

abbrev pub members_of : List Joining → List Member
members_of joining = map (λ j. (j.number, j.object)) joining

-- the modules that the names of a walk name
abbrev pub closure_of : SymbolicProcess → List Joining → List (List ℕ) → List ℕ
closure_of p joining names = filter_map (number_among p joining) names

-- The scope of new modules: those of the global list, and then the others of the closure. With nothing live the global
-- list is empty, and the scope is the closure of the program.
abbrev pub scope_with : SymbolicProcess → List ℕ → List ℕ
scope_with p closure = with_new nat_eq p.global closure
