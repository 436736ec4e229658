-- What the load of a program comes to, over told files.
use Rattle.std.specs.Prelude.{◌≡◌, ℕ, ◌-◌, false, List, [], replicate, Option, Some, None, IfSome}
use Rattle.std.specs.FinMap.{empty}
use Rattle.fd_base.specs.Fetched.{Files}
use Rattle.guest_mem.specs.Memory.{byte_at}
use Rattle.symbol_scope.specs.declared.tables.TheConstants.{MAX_MODULES}
use Rattle.load_model.specs.declared.error.LoadRefusal.{LoadRefusal}
use Rattle.load_model.specs.declared.layout.TheConstants.{RESOLVER, RESOLVER_WORDS, THREAD_END, END_WORDS, STUBS_END}
use Rattle.load_model.specs.declared.module.SymbolicProcess.{SymbolicProcess}
use Rattle.load_model.specs.declared.plan.MemPlan.{MemPlan}
use Rattle.load_model.specs.Layout.{IsLaidOut, HasBytes, bytes_of_words}
use Rattle.load_model.specs.Joined.{Asked}
use Rattle.load_model.specs.Plan.{Fits}
use Rattle.fd_base.specs.Ranges.{is_in}
use Rattle.load_state.specs.declared.plan.GroupPlan.{GroupPlan}
use Rattle.load_state.specs.Accepted.{IsPlan}
use Rattle.load_state.specs.Committed.{IsCommitted}
use Rattle.load_state.specs.Loaded.{Loaded, LoadedModules, in_memory}
use Rattle.load_state.specs.Refused.{IsRefused}

-- no module is live
abbrev pub empty_process : SymbolicProcess
empty_process = record { modules = replicate MAX_MODULES None; groups = replicate MAX_MODULES None; global = [] }

-- before the first load nothing is placed
abbrev pub start_of : MemPlan → LoadedModules
start_of plan = record {
  plan = plan;
  process = empty_process;
  maps = replicate MAX_MODULES [];
  held = [];
  addrs = empty;
}

-- why that load is refused
abbrev pub IsLoadRefused : MemPlan → Files → List ℕ → LoadRefusal → Type 0
IsLoadRefused plan told name r = IsRefused (start_of plan) (Some told) name r

-- Nothing is loaded yet. The plan fits, the memory is laid out for no modules, and it is zero but for the stubs.
pub record IsNew (plan : MemPlan) (l : Loaded) : Type 0 where
  pub starts : l.modules ≡ start_of plan
  pub fits : Fits plan
  pub laid_out : IsLaidOut plan (in_memory l.modules.process l.modules.maps) l.memory
  pub resolver : HasBytes l.memory RESOLVER (bytes_of_words RESOLVER_WORDS)
  pub ends : HasBytes l.memory THREAD_END (bytes_of_words END_WORDS)
  pub clear : (a : ℕ) → is_in RESOLVER (STUBS_END - RESOLVER) a ≡ false → byte_at l.memory a ≡ 0

-- how a program is asked for: every slot is bound at once
abbrev pub eager : Asked
eager = record { global = false; lazy = false }

-- this is what the load of a program leads to
pub record IsProgramLoaded (plan : MemPlan) (told : Files) (name : List ℕ) (l : Loaded) : Type 0 where
  pub start : Loaded
  pub group : GroupPlan
  pub fresh : IsNew plan start
  pub planned : IsPlan start.modules (Some told) name eager group
  pub committed : IsCommitted start group l

-- the same where the files are told
abbrev pub LoadsProgram : MemPlan → List ℕ → Option Files → Loaded → Type 0
LoadsProgram plan name files l = IfSome files (λ told. IsProgramLoaded plan told name l)

-- why the program isn't loaded, where the files are told
abbrev pub IsCause : MemPlan → List ℕ → Option Files → LoadRefusal → Type 0
IsCause plan name files r = IfSome files (λ told. IsLoadRefused plan told name r)
