-- The load of a program, from what the loader's calls answer.
use Rattle.std.proofs.Common.{◌≡◌, ℕ, List, Option, Some, None, subst}
use Rattle.fd_base.specs.Fetched.{Files}
use Rattle.load_model.specs.declared.error.LoadErr.{LoadErr}
use Rattle.load_model.specs.declared.error.LoadErr.TheVariants.{Refused, StoreFault, Memory as Lacks}
use Rattle.load_model.specs.declared.error.LoadRefusal.{LoadRefusal}
use Rattle.load_model.specs.declared.plan.MemPlan.{MemPlan}
use Rattle.load_model.specs.Explains.{Explains}
use Rattle.load_state.specs.declared.plan.GroupPlan.{GroupPlan}
use Rattle.load_state.specs.Accepted.{IsPlan}
use Rattle.load_state.specs.Committed.{IsCommitted}
use Rattle.load_state.specs.Loaded.{Loaded, LoadedModules}
use Rattle.load_state.specs.ProgramLoad.{IsCause, IsNew, LoadsProgram, eager, start_of}
use Rattle.load_state.specs.Refused.{IsRefused}

-- what the first load comes to
pub loads : (files : Option Files) (plan : MemPlan) (name : List ℕ) (start mid new : Loaded) (g : GroupPlan) → IsNew plan start
    → IsPlan start.modules files name eager g → mid ≡ start → IsCommitted mid g new → LoadsProgram plan name files new
loads None plan name start mid new g fresh h same c = tt
loads (Some told) plan name start mid new g fresh h same c = record {
  start = start;
  group = g;
  fresh = fresh;
  planned = h;
  committed = subst (λ (l : Loaded). IsCommitted l g new) same c;
}

is_cause : (files : Option Files) (plan : MemPlan) (name : List ℕ) (r : LoadRefusal) → IsRefused (start_of plan) files name r → IsCause plan name files r
is_cause None plan name r h = tt
is_cause (Some told) plan name r h = h

explained : (files : Option Files) (plan : MemPlan) (name : List ℕ) (old new : ℕ) (e : LoadErr)
    → Explains (IsRefused (start_of plan) files name) old new e → Explains (IsCause plan name files) old new e
explained files plan name old new (Refused r) h = is_cause files plan name r h
explained files plan name old new StoreFault h = h
explained files plan name old new Lacks h = tt

-- why the first load is refused
pub refused : (files : Option Files) (plan : MemPlan) (name : List ℕ) (start : Loaded) (old new : ℕ) (e : LoadErr) → IsNew plan start
    → Explains (IsRefused start.modules files name) old new e → Explains (IsCause plan name files) old new e
refused files plan name start old new e fresh h =
    explained files plan name old new e (subst (λ (l : LoadedModules). Explains (IsRefused l files name) old new e) fresh.starts h)
