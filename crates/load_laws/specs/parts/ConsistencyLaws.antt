-- What holds of a new loader, of a loader after a load, and of what a program's load leads to.
use Rattle.std.specs.Prelude.{ℕ, List, Option, All}
use Rattle.fd_base.specs.Fetched.{Files}
use Rattle.load_model.specs.Joined.{Asked}
use Rattle.load_model.specs.declared.plan.MemPlan.{MemPlan}
use Rattle.load_model.specs.Unbound.{AllBound}
use Rattle.load_process.specs.parts.TakenObjects.{IsTaken}
use Rattle.load_state.specs.declared.plan.GroupPlan.{GroupPlan}
use Rattle.load_state.specs.Accepted.{IsPlan}
use Rattle.load_state.specs.Committed.{IsCommitted}
use Rattle.load_state.specs.Consistent.{IsConsistent}
use Rattle.load_state.specs.Loaded.{Loaded}
use Rattle.load_state.specs.ProgramLoad.{IsNew, IsProgramLoaded}

-- a loader that has loaded nothing is consistent
abbrev pub NewIsConsistent : Type 0
NewIsConsistent = (plan : MemPlan) (l : Loaded) → IsNew plan l → IsConsistent l

-- a consistent loader stays so when a plan of its own is committed
abbrev pub LoadsKeepConsistent : Type 0
LoadsKeepConsistent =
    (l new : Loaded) (files : Option Files) (root : List ℕ) (asked : Asked) (plan : GroupPlan) → IsConsistent l
    → IsPlan l.modules files root asked plan → All (λ j. IsTaken j.object) plan.joining → IsCommitted l plan new → IsConsistent new

-- a program that is loaded has every slot bound
abbrev pub ProgramsAreBound : Type 0
ProgramsAreBound = (plan : MemPlan) (told : Files) (name : List ℕ) (l : Loaded) → IsProgramLoaded plan told name l → AllBound l.modules.process
