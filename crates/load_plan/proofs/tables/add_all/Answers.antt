use Rattle.std.proofs.Common.{◌<◌, arith}
use Rattle.std.proofs.lemmas.List.{take_all}
use Rattle.std.proofs.lemmas.List.Elements.{All-nil}
use Rattle.load_model.specs.declared.module.Joining.{Joining}
use Rattle.load_plan.proofs.MadeLists.{small_numbers}
use Rattle.load_plan.proofs.TableSteps.{put_added, put_all, put_next, put_none, put_so_far, room_next}
use Rattle.load_plan.proofs.tables.add_all.Goals as goal

pub loop-new-init : goal.loop-new-init
loop-new-init c = record {
  put = put_none c.args.tables.now.slots;
  room = All-nil (λ (j : Joining). j.number < c.args.tables.now.room);
  grows = omega arith;
}

pub loop-new-preserved : goal.loop-new-preserved
loop-new-preserved c =
    let joining = c.args.joining.now in
    let k = c.loop-new.new-index in
    let new = c.new-item.result in
    let old = c.args.tables.now.slots in
    record {
      put = rw c.in_ok-add.ensures.added
          (put_next joining k new old c.loop-new.tables.slots c.requires.numbers (small_numbers c.args.process.now joining _ c.requires.tables.size c.requires.free)
          c.loop-new-test.true c.new-item.is c.loop-new.invariant.put);
      room = room_next joining k new c.loop-new.tables.room _ c.loop-new-test.true c.new-item.is c.in_ok-add.ensures.grows c.in_ok-add.ensures.room c.loop-new.invariant.room;
      grows = omega (arith, c.in_ok-add.ensures.grows, c.loop-new.invariant.grows);
    }

pub returns-in_err-add-clause-live : goal.returns-in_err-add-clause-live
returns-in_err-add-clause-live c =
    rw c.in_err-add.ensures.stays
    (put_so_far c.args.process.now c.args.joining.now c.loop-new.new-index c.args.tables.now.slots c.loop-new.tables.slots c.requires.free c.requires.tables c.loop-new.invariant.put)

pub returns-in_err-add-clause-grows : goal.returns-in_err-add-clause-grows
returns-in_err-add-clause-grows c = omega (arith, c.in_err-add.ensures.grows, c.loop-new.invariant.grows)

pub returns-clause-added : goal.returns-clause-added
returns-clause-added c = λ scope.
    put_added c.args.process.now c.args.joining.now scope c.args.tables.now.slots c.loop-new.tables.slots c.requires.tables
    (put_all c.args.joining.now c.loop-new.new-index c.args.tables.now.slots c.loop-new.tables.slots c.loop-new-test.false c.loop-new.invariant.put)

pub returns-clause-each : goal.returns-clause-each
returns-clause-each c = (put_all c.args.joining.now c.loop-new.new-index c.args.tables.now.slots c.loop-new.tables.slots c.loop-new-test.false c.loop-new.invariant.put).each

pub returns-clause-room : goal.returns-clause-room
returns-clause-room c = rw (take_all c.loop-new.new-index c.args.joining.now c.loop-new-test.false) at c.loop-new.invariant.room

pub returns-clause-live : goal.returns-clause-live
returns-clause-live c =
    put_so_far c.args.process.now c.args.joining.now c.loop-new.new-index c.args.tables.now.slots c.loop-new.tables.slots c.requires.free c.requires.tables c.loop-new.invariant.put
