-- A walk of a thread, and the instruction behind it.
use Rattle.std.proofs.Common.{◌≡◌, ℕ, List, Option, Some, None, ap, sym, subst, ◌∙◌}
use Rattle.guest_mem.specs.Memory.{GuestMemory}
use Rattle.a32_machine.specs.declared.cpu.StepEnd.{StepEnd}
use Rattle.load_map.specs.declared.entry.MapEntry.{MapEntry}
use Rattle.load_model.specs.declared.module.SymbolicProcess.{SymbolicProcess}
use Rattle.run_model.specs.declared.service.Served.{Served}
use Rattle.run_model.specs.declared.thread.Thread.{Thread}
use Rattle.run_model.specs.Instructions.{obeyed_by}
use Rattle.run_turn.specs.parts.CallsInProgress.{BeganInTurn}
use Rattle.run_turn.proofs.QuietCalls.{after_in_turn}
use Rattle.run_turn.specs.parts.QuietCalls.{NoneComplete, calls_after}
use Rattle.run_turn.specs.parts.QuietSteps.{HasObeyedOn, HasWalked, IsWithin, Machine, WalksOn, machine_of, thread_on}

-- calls that began in turn are so behind a walk
pub calls_after_walk : (thread after : Thread) (n : ℕ) → NoneComplete n thread.calls → after ≡ thread_on n thread after.cpu → BeganInTurn thread.calls → BeganInTurn after.calls
calls_after_walk thread after n stay rest h = subst BeganInTurn (sym (ap (λ (x : Thread). x.calls) rest)) (after_in_turn n thread.calls h stay)

module _ (p : SymbolicProcess) (maps : List (List MapEntry)) (most : ℕ) (thread after : Thread) (m memory : GuestMemory) (n : ℕ) (last : Option StepEnd)
    (walked : HasWalked p maps most (machine_of thread.cpu m) (machine_of after.cpu memory) (record { quiet = n; last = last })) (stay : NoneComplete n thread.calls)
    (rest : after ≡ thread_on n thread after.cpu) where
  counted : after.calls ≡ calls_after n thread.calls
  counted = ap (λ (x : Thread). x.calls) rest

  -- all steps that were asked for are quiet
  pub all_walked : last ≡ None → HasObeyedOn p maps most thread m (record { quiet = n; last = None }) after memory
  all_walked none =
      let all : n ≡ most = subst (λ (o : Option StepEnd). IsWithin o most n) none walked.within in
      let stands : machine_of after.cpu memory ≡ walked.mid = subst (λ (o : Option StepEnd). WalksOn o walked.mid (machine_of after.cpu memory)) none walked.last' in
      record {
        mid = walked.mid;
        quiet' = walked.quiet';
        stay = stay;
        counted = counted;
        last' = (all, rest ∙ ap (λ (x : Machine). thread_on n thread x.cpu) stands, ap (λ (x : Machine). x.memory) stands);
      }

  -- one more instruction has ended so, and has come to this
  pub one_behind : (e : StepEnd) (served : Served) (later : Thread) → last ≡ Some e → later.calls ≡ after.calls
      → ((before : Machine) → WalksOn (Some e) before (machine_of after.cpu memory)
      → record { served = served; cpu = later.cpu; refusal = later.refusal; memory = memory } ≡ obeyed_by before.cpu after.refusal before.memory)
      → HasObeyedOn p maps most thread m (record { quiet = n; last = Some served }) later memory
  one_behind e served later is calls done = record {
    mid = walked.mid;
    quiet' = walked.quiet';
    stay = stay;
    counted = calls ∙ counted;
    last' = (
      subst (λ (o : Option StepEnd). IsWithin o most n) is walked.within,
      done walked.mid (subst (λ (o : Option StepEnd). WalksOn o walked.mid (machine_of after.cpu memory)) is walked.last')
          ∙ ap (λ (code : ℕ). obeyed_by walked.mid.cpu code walked.mid.memory) (ap (λ (x : Thread). x.refusal) rest),
    );
  }
