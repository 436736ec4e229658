use Rattle.std.proofs.Common.{◌≡◌, ℕ, Some, sym, ap, subst}
use Rattle.std.proofs.lemmas.Result.{err_from_is_err_and}
use Rattle.proc_run.proofs.StartRefusals.{no_entry_as}
use Rattle.load_state.specs.Loaded.{Loaded}
use Rattle.load_state.specs.ProgramLoad.{LoadsProgram}
use Rattle.placed_code.specs.Places.{entry_point}
use Rattle.run_model.specs.declared.job.Job.{Job}
use Rattle.proc_run.specs.BegunProcess.{begun}
use Rattle.proc_run.specs.RunningProcess.{Running}
use Rattle.proc_run.proofs.process.Process.start.Goals as goal

pub returns-in_err-entry-clause-error : goal.returns-in_err-entry-clause-error
returns-in_err-entry-clause-error g c =
    let failed = err_from_is_err_and c.from_residual-in_err-entry.result c.from_residual-in_err-entry.ensures.1 in
    rw (failed.1, failed.2)
    (no_entry_as (g.S.Store.files c.args.store.now) c.args.job.now _ _ c.in_ok-loader.loader.loaded _ c.if-job.false c.in_ok-loader.ensures.loads c.in_err-entry.ensures.none)

pub returns-clause-started : goal.returns-clause-started
returns-clause-started g c =
    let l : Loaded = c.in_ok-loader.loader.loaded in
    let job : Job = c.args.job.now in
    let entry : ℕ = c.in_ok-entry.entry in
    let process : Running = c.in_ok-begin.field-0 in
    let begins : process ≡ begun l entry job.steps = c.in_ok-begin.ensures.begins in
    let same : l ≡ process.state.loaded = sym (ap (λ (p : Running). p.state.loaded) begins) in
    record {
      eager = c.if-job.false;
      loads = subst (LoadsProgram job.plan job.program (g.S.Store.files c.args.store.now)) same c.in_ok-loader.ensures.loads;
      begins = record {
        entry = entry;
        entry' = subst (λ (x : Loaded). entry_point x.modules.process x.modules.maps 0 ≡ Some entry) same c.in_ok-entry.ensures.entry;
        begins = subst (λ (x : Loaded). process ≡ begun x entry job.steps) same begins;
      };
    }
