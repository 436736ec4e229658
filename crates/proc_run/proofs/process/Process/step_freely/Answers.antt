use Rattle.std.proofs.Common.{◌≡◌, Result, Ok, sym, ap, subst, ◌∙◌}
use Rattle.std.specs.Prelude.{OnOk}
use Rattle.proc_run.specs.declared.end.Going.{Going}
use Rattle.proc_run.specs.declared.end.Going.TheVariants.{Others}
use Rattle.proc_run.specs.declared.end.RunEnd.{RunEnd}
use Rattle.proc_run.specs.parts.ReadyProcess.{IsReady}
use Rattle.proc_run.proofs.RunParts.{next_goes, none_goes, run_over, same_goes}
use Rattle.run_model.specs.State.{lives}
use Rattle.proc_run.proofs.FirstLive.{passes}
use Rattle.proc_run.proofs.process.Process.step_freely.Goals as goal

pub live_from-requires : goal.live_from-requires
live_from-requires g c =
    let others : c.step_on.result ≡ Ok Others = c.in-Ok-Others.is ∙ ap Ok c.in-Ok-Others.field-0-is in
    let ready : IsReady c.args.self.now.limit c.step_on.new.self =
    subst (λ (r : Result Going RunEnd). OnOk r (IsReady c.args.self.now.limit c.step_on.new.self)) others c.step_on.ensures.ready in
    ready.running.count

pub returns-in-Ok-Same-clause-part : goal.returns-in-Ok-Same-clause-part
returns-in-Ok-Same-clause-part g c =
    same_goes c.args.self.now.limit c.args.thread c.args.left.now c.step_on.new.left c.args.self.now.state c.step_on.new.self.state _ _ _ _ c.step_on.result
    (c.in-Ok-Same.is ∙ ap Ok c.in-Ok-Same.field-0-is) c.step_on.ensures.part

pub returns-in-Some-clause-part : goal.returns-in-Some-clause-part
returns-in-Some-clause-part g c =
    next_goes c.args.self.now.limit c.args.thread c.args.left.now c.step_on.new.left c.in-Some.next c.args.self.now.state c.step_on.new.self.state _ _ _ _ c.step_on.result c.live_from.result
    (c.in-Ok-Others.is ∙ ap Ok c.in-Ok-Others.field-0-is) c.live_from.ensures c.in-Some.is c.step_on.ensures.part

pub returns-in-None-clause-part : goal.returns-in-None-clause-part
returns-in-None-clause-part g c =
    none_goes c.args.self.now.limit c.args.thread c.args.left.now c.step_on.new.left c.args.self.now.state c.step_on.new.self.state _ _ _ _ c.step_on.result c.live_from.result
    (c.in-Ok-Others.is ∙ ap Ok c.in-Ok-Others.field-0-is) c.live_from.ensures c.in-None.is c.step_on.ensures.part

pub returns-in-Some-clause-lives : goal.returns-in-Some-clause-lives
returns-in-Some-clause-lives g c = passes (lives c.step_on.new.self.state.threads) _ c.in-Some.next (sym c.live_from.ensures ∙ c.in-Some.is)

pub returns-in-Err-clause-part : goal.returns-in-Err-clause-part
returns-in-Err-clause-part g c =
    run_over c.in-Err.end c.args.self.now.limit c.args.thread c.args.left.now c.step_on.new.left c.args.self.now.state c.step_on.new.self.state _ _ _ _ c.step_on.result
    c.in-Err.is c.step_on.ensures.part
