use Rattle.std.proofs.Common.{refl, sym, subst, ap, ◌∙◌}
use Rattle.std.specs.Prelude.{IfOk}
use Rattle.guest_mem.specs.Memory.{GuestMemory}
use Rattle.run_model.specs.declared.thread.Thread.{Thread}
use Rattle.run_turn.specs.declared.quiet.Passed.{Passed}
use Rattle.proc_run.specs.parts.TakenTurns.{HasPassedOn}
use Rattle.run_turn.specs.parts.QuietSteps.{HasObeyedOn}
use Rattle.proc_run.proofs.PassedTurns.{if_ok_as, passed_on, same_read}
use Rattle.proc_run.proofs.taking.obeyed_on.Goals as goal

pub returns-clause-obeyed : goal.returns-clause-obeyed
returns-clause-obeyed c = λ thread p maps at known.
    let l = c.args.loader.now.loaded in
    let same = same_read c.args.threads.now c.args.t c.index-threads-t.result thread c.in-Some.thread at c.in-Some.is in
    if_ok_as c.obey_on.result
    (λ (passed : Passed). HasObeyedOn p maps c.args.most c.in-Some.thread l.memory passed c.obey_on.new.thread c.obey_on.new.guest)
    (HasPassedOn p maps c.args.most l (record l { memory = c.obey_on.new.guest }) c.args.threads.now _ c.args.t thread)
    (λ (passed : Passed) (done : HasObeyedOn p maps c.args.most c.in-Some.thread l.memory passed c.obey_on.new.thread c.obey_on.new.guest).
    passed_on p maps c.args.most l (record l { memory = c.obey_on.new.guest }) c.args.threads.now _ c.args.t thread c.obey_on.new.thread refl refl passed
    (subst (λ (x : Thread). HasObeyedOn p maps c.args.most x l.memory passed c.obey_on.new.thread c.obey_on.new.guest) (sym same) done))
    (subst (λ (m : GuestMemory). IfOk c.obey_on.result (λ (passed : Passed). HasObeyedOn p maps c.args.most c.in-Some.thread m passed c.obey_on.new.thread c.obey_on.new.guest))
    c.guest.ensures.value (c.obey_on.ensures.done p maps known))
