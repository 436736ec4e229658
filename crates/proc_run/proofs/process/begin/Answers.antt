use Rattle.std.proofs.Common.{◌≡◌, ℕ, ◌<◌, List, Option, Some, None, length, replicate, sym, ap, subst, ◌∙◌, arith}
use Rattle.std.specs.Prelude.{All}
use Rattle.std.proofs.lemmas.List.{length-replicate, length-set}
use Rattle.std.proofs.lemmas.List.Elements.{All-replicate, All-set}
use Rattle.load_model.specs.declared.plan.MemPlan.{MemPlan}
use Rattle.run_model.specs.declared.thread.Thread.{Thread}
use Rattle.run_turn.specs.parts.CallsInProgress.{AreInProgress}
use Rattle.proc_run.proofs.Begins.{begins}
use Rattle.proc_run.proofs.SettledTurns.{placed_now}
use Rattle.proc_run.proofs.process.begin.Goals as goal

pub first_thread-thread-requires-clause-placed : goal.first_thread-thread-requires-clause-placed
first_thread-thread-requires-clause-placed c =
    placed_now c.consistent_are_placed.ensures c.args.loader.loaded c.process.result.now c.maps.result.now c.requires.consistent c.whole.ensures c.process.ensures c.maps.ensures

pub threads_with-requires : goal.threads_with-requires
threads_with-requires c = subst (λ (p : MemPlan). 0 < p.threads) c.requires.plan c.requires.consistent.fits.some_threads

pub returns-clause-running : goal.returns-clause-running
returns-clause-running c =
    let n : ℕ = c.args.job.now.plan.threads in
    let first : Option Thread = Some c.first_thread-thread.result in
    let long : length c.in_ok-threads.threads.items ≡ n = ap length c.in_ok-threads.ensures ∙ length-set _ 0 _ ∙ length-replicate n None in
    record {
      consistent = c.requires.consistent;
      count = omega arith;
      calls = subst (λ (places : List (Option Thread)). All AreInProgress places) (sym c.in_ok-threads.ensures)
          (All-set AreInProgress (replicate n None) 0 first c.first_thread-thread.ensures.calls (All-replicate AreInProgress n None tt));
    }

pub returns-clause-begins : goal.returns-clause-begins
returns-clause-begins c =
    let l = c.args.loader.loaded in
    let first = c.first_thread-thread.ensures.thread l (sym c.process.ensures) (sym c.maps.ensures) (ap (λ (p : MemPlan). p.memory) c.requires.plan) in
    begins l c.args.entry c.args.job.now.steps c.args.job.now.plan _ _ _ _ c.requires.plan c.process-2.ensures first c.in_ok-threads.ensures c.in_ok-pending.ensures
