-- What opening a library does to a process without addresses (gABI, "Shared Object Dependencies": what it needs is loaded
-- with it).
use Rattle.std.specs.Prelude.{◌≡◌, ℕ, ◌+◌, List, set, Option, Some}
use Rattle.std.specs.Option.{option_map_or}
use Rattle.fd_base.specs.Fetched.{Files}
use Rattle.load_model.specs.declared.module.Joining.{Joining}
use Rattle.load_model.specs.declared.module.SymbolicProcess.{SymbolicProcess}
use Rattle.load_model.specs.Joined.{Asked, global_after, process_after}
use Rattle.load_model.specs.Process.{live_at}
use Rattle.load_model.specs.Walk.{number_among}
use Rattle.load_state.specs.Accepted.{IsScoped}
use Rattle.load_state.specs.Loaded.{Loaded}

-- module m with this count of opens
abbrev pub with_opens : SymbolicProcess → ℕ → ℕ → SymbolicProcess
with_opens p m n = option_map_or (λ live. record p { modules = set p.modules m (Some (record live { opens = n })) }) (live_at p m) p

abbrev pub opens_of : SymbolicProcess → ℕ → ℕ
opens_of p m = option_map_or (λ live. live.opens) (live_at p m) 0

-- module m is opened once more
abbrev pub opened_once_more : SymbolicProcess → ℕ → SymbolicProcess
opened_once_more p m = with_opens p m (opens_of p m + 1)

-- An open that is accepted: what the walk finds new is loaded as one group, and the module that was asked for is opened
-- once more. Its number is the handle.
pub record IsOpen (p : SymbolicProcess) (files : Option Files) (root : List ℕ) (asked : Asked) (handle : ℕ) (new : SymbolicProcess) : Type 0 where
  pub joining : List Joining
  pub scope : List ℕ
  pub scoped : IsScoped p files root joining scope
  pub handle' : number_among p joining root ≡ Some handle
  pub after : new ≡ opened_once_more (process_after p asked.lazy joining scope (global_after p asked.global scope)) handle

-- a loader with this count of opens
abbrev pub recounted_in : Loaded → ℕ → ℕ → Loaded
recounted_in l m n = record l { modules = record l.modules { process = with_opens l.modules.process m n } }
