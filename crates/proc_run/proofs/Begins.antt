-- The process with which a run begins.
use Rattle.std.proofs.Common.{◌≡◌, ℕ, List, Option, Some, None, ◌++◌, map, replicate, set, sym, ap, ◌∙◌}
use Rattle.load_model.specs.declared.module.SymbolicProcess.{SymbolicProcess}
use Rattle.load_model.specs.declared.plan.MemPlan.{MemPlan}
use Rattle.load_state.specs.Loaded.{Loaded}
use Rattle.run_model.specs.declared.event.Event.{Event}
use Rattle.run_model.specs.declared.thread.Thread.{Thread}
use Rattle.run_model.specs.Start.{first_events, load_events}
use Rattle.run_model.specs.Turns.{entering}
use Rattle.proc_run.specs.BegunProcess.{begun, thread_at_entry}
use Rattle.proc_run.specs.RunningProcess.{Running}

abbrev pub process_with : Loaded → ℕ → List (Option Thread) → List Event → Running
process_with l limit threads events = record { state = record { loaded = l; threads = threads; steps = 0 }; limit = limit; pending = events }

pub begins : (l : Loaded) (entry limit : ℕ) (plan : MemPlan) (process : SymbolicProcess) (thread : Thread) (threads : List (Option Thread)) (events : List Event)
    → l.modules.plan ≡ plan → process ≡ l.modules.process → thread ≡ thread_at_entry l entry
    → threads ≡ set (replicate plan.threads None) 0 (Some thread) → events ≡ load_events process ++ map (entering 0 0) thread.calls
    → process_with l limit threads events ≡ begun l entry limit
begins l entry limit plan process thread threads events planned loaded first placed told =
    let first_there : threads ≡ set (replicate l.modules.plan.threads None) 0 (Some (thread_at_entry l entry)) =
    placed
    ∙ ap (λ (p : MemPlan). set (replicate p.threads None) 0 (Some thread)) (sym planned)
    ∙ ap (λ (t : Thread). set (replicate l.modules.plan.threads None) 0 (Some t)) first
    in
    let first_told : events ≡ first_events l (thread_at_entry l entry) =
    told
    ∙ ap (λ (p : SymbolicProcess). load_events p ++ map (entering 0 0) thread.calls) loaded
    ∙ ap (λ (t : Thread). load_events l.modules.process ++ map (entering 0 0) t.calls) first
    in
    ap (λ (there : List (Option Thread)). process_with l limit there events) first_there
    ∙ ap (λ (list : List Event). process_with l limit (set (replicate l.modules.plan.threads None) 0 (Some (thread_at_entry l entry))) list) first_told
