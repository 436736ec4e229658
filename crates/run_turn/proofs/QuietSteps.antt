-- Of a step of a thread without calls nothing is told, unless a call begins with it.
use Rattle.std.proofs.Common.{◌≡◌, ℕ, suc, List, [], Option, Some, None, ap, subst, refl, ◌∙◌}
use Rattle.std.specs.Prelude.{set}
use Rattle.std.proofs.lemmas.List.{set-get_or}
use Rattle.load_map.specs.declared.entry.MapEntry.{MapEntry}
use Rattle.load_model.specs.declared.module.SymbolicProcess.{SymbolicProcess}
use Rattle.load_state.specs.Loaded.{Loaded}
use Rattle.run_model.specs.declared.service.Served.TheVariants.{Went}
use Rattle.run_model.specs.declared.thread.Thread.{Thread}
use Rattle.run_model.specs.State.{thread_at}
use Rattle.run_model.specs.Turns.{call_events, gone_as, with_calls}
use Rattle.run_turn.specs.parts.QuietTurns.{IsApart, quiet}
use Rattle.run_turn.specs.parts.Remainder.{IsAt, state_with}

set_back : (xs : List (Option Thread)) (t : ℕ) (thread : Thread) → thread_at xs t ≡ Some thread → set xs t (Some thread) ≡ xs
set_back xs t thread at = subst (λ (x : Option Thread). set xs t x ≡ xs) at (set-get_or xs t None)

module _ (p : SymbolicProcess) (maps : List (List MapEntry)) (thread : Thread) (apart : IsApart p maps thread) where
  same_thread : with_calls p maps thread ≡ thread
  same_thread = rw (apart.calls', apart.begun) refl

  no_events : (steps t : ℕ) → call_events p maps steps t thread ≡ []
  no_events steps t = rw (apart.calls', apart.begun) refl

pub quiet_step : (p : SymbolicProcess) (maps : List (List MapEntry)) (l : Loaded) (threads : List (Option Thread)) (t steps : ℕ) (thread : Thread)
    → IsAt l p maps threads t thread → IsApart p maps thread
    → gone_as (state_with l threads steps) t l thread Went ≡ quiet (state_with l threads (suc steps))
quiet_step p maps l threads t steps thread at apart =
    let here : IsApart l.modules.process l.modules.maps thread = rw (at.process', at.maps') apart in
    let back : set threads t (Some (with_calls l.modules.process l.modules.maps thread)) ≡ threads =
    ap (λ (x : Thread). set threads t (Some x)) (same_thread l.modules.process l.modules.maps thread here) ∙ set_back threads t thread at.at in
    rw (back, no_events l.modules.process l.modules.maps thread here (suc steps) t) refl
