-- Where a handle's symbols are looked up.
use Rattle.std.specs.Prelude.{ℕ, ◌==◌, List, [], Option, if◌then◌else◌}
use Rattle.std.specs.Option.{option_map_or}
use Rattle.symbol_scope.specs.declared.tables.Found.{Found}
use Rattle.symbol_scope.specs.declared.tables.TheConstants.{MAX_MODULES}
use Rattle.symbol_scope.specs.Definition.{first_definition}
use Rattle.load_model.specs.declared.module.SymbolicProcess.{SymbolicProcess}
use Rattle.load_model.specs.Definition.{export_of}
use Rattle.load_model.specs.Linkage.{closure_of, linkage_of}
use Rattle.load_model.specs.Process.{live_at}
use Rattle.load_model.specs.Walk.{found_after, needed_by}

-- The names that a live module needs, and those that they need, breadth first, its own first. No more are found than there
-- are live modules.
abbrev pub names_needed : SymbolicProcess → List ℕ → List (List ℕ)
names_needed p name = found_after (needed_by p []) name MAX_MODULES

-- the modules of these names
abbrev pub closure : SymbolicProcess → ℕ → List ℕ
closure p m = option_map_or (λ live. closure_of p [] (names_needed p live.name)) (live_at p m) []

-- handle 0 is the program's, and looks in the modules whose symbols every later group finds; any other looks in its module
-- and what that needs
abbrev pub searched : SymbolicProcess → ℕ → List ℕ
searched p handle = if handle == 0 then p.global else closure p handle

-- the first exported definition of a name there
abbrev pub found_by : SymbolicProcess → ℕ → List ℕ → Option Found
found_by p handle name = first_definition (export_of (linkage_of p) name) (searched p handle)
