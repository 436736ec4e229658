use Rattle.std.proofs.Common.{refl, sym, subst, ◌∙◌}
use Rattle.load_laws.specs.parts.Premises.{HasFreeNumber}
use Rattle.load_model.specs.declared.module.Joining.{Joining}
use Rattle.symbol_scope.specs.Table.{table_of}
use Rattle.load_plan.proofs.MadeLists.{made_more}
use Rattle.load_plan.proofs.TableSteps.{left_after, live_after, next_has}
use Rattle.load_plan.proofs.tables.take_all.Goals as goal

pub take_of-requires : goal.take_of-requires
take_of-requires c =
    next_has c.args.joining.now c.loop-new.new-index c.new-item.result c.loop-new.tables.slots c.loop-new-test.true c.new-item.is c.loop-new.invariant.left

pub loop-new-init : goal.loop-new-init
loop-new-init c = record { taken = c.new-taken.ensures; left = c.requires.each; live = c.requires.live; room = refl }

pub loop-new-preserved : goal.loop-new-preserved
loop-new-preserved c =
    let joining = c.args.joining.now in
    let k = c.loop-new.new-index in
    let new = c.new-item.result in
    let free = subst (HasFreeNumber c.args.process.now) (sym c.new-item.is) (c.requires.free k new c.loop-new-test.true) in
    record {
      taken = made_more (λ (j : Joining). table_of j.name j.object) joining k new c.take_of.result c.loop-new.taken _ c.loop-new-test.true c.new-item.is c.take_of.ensures.table
          c.loop-new.invariant.taken c.in_ok-push.ensures;
      left = left_after joining k new c.loop-new.tables.slots _ c.requires.numbers c.loop-new-test.true c.new-item.is c.take_of.ensures.left c.loop-new.invariant.left;
      live = live_after c.args.process.now new c.loop-new.tables.slots _ free c.take_of.ensures.left c.loop-new.invariant.live;
      room = c.take_of.ensures.room ∙ c.loop-new.invariant.room;
    }

pub returns-in_err-push-clause-live : goal.returns-in_err-push-clause-live
returns-in_err-push-clause-live c =
    let k = c.loop-new.new-index in
    let new = c.new-item.result in
    let free = subst (HasFreeNumber c.args.process.now) (sym c.new-item.is) (c.requires.free k new c.loop-new-test.true) in
    live_after c.args.process.now new c.loop-new.tables.slots _ free c.take_of.ensures.left c.loop-new.invariant.live

pub returns-in_err-push-clause-room : goal.returns-in_err-push-clause-room
returns-in_err-push-clause-room c = c.take_of.ensures.room ∙ c.loop-new.invariant.room
