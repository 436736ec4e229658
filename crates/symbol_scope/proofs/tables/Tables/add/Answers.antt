use Rattle.std.proofs.Common.{◌≡◌, ap, ◌∙◌, ◌<◌, arith, length, length-set, set, Some, Ok, Err, OnErr, Result}
use Rattle.symbol_scope.specs.parts.Slots.{TableSpace, filled_up}
use Rattle.symbol_scope.proofs.Filling.{filled_up-set}
use Rattle.symbol_scope.proofs.tables.Tables.add.Goals as goal

pub returns-clause-added : goal.returns-clause-added
returns-clause-added c =
    let lt : c.args.number < length c.make_room.new.slots.items = omega (arith, c.in_ok-make_room.ensures.room) in
    ap filled_up c.put_slot.ensures ∙ filled_up-set c.make_room.new.slots.items c.args.number (Some c.in_ok-table.table) lt
    ∙ ap (λ l. set l c.args.number (Some c.in_ok-table.table)) (c.in_ok-make_room.ensures.stays ∙ ap (λ (t : TableSpace). t.slots) c.self.view_is)
    ∙ ap (λ t. set c.args.self.now.slots c.args.number (Some t)) c.in_ok-table.ensures

pub returns-clause-room : goal.returns-clause-room
returns-clause-room c =
    let same : length c.put_slot.new.slots.items ≡ length c.make_room.new.slots.items =
    ap length c.put_slot.ensures ∙ length-set c.make_room.new.slots.items c.args.number (Some c.in_ok-table.table) in
    omega (arith, same, c.in_ok-make_room.ensures.room)

pub returns-clause-grows : goal.returns-clause-grows
returns-clause-grows c =
    let same : length c.put_slot.new.slots.items ≡ length c.make_room.new.slots.items =
    ap length c.put_slot.ensures ∙ length-set c.make_room.new.slots.items c.args.number (Some c.in_ok-table.table) in
    let had : length c.self.inside.slots.items ≡ c.args.self.now.room = ap (λ (t : TableSpace). t.room) c.self.view_is in
    omega (arith, same, had, c.in_ok-make_room.ensures.grows)

pub returns-in_err-make_room-clause-grows : goal.returns-in_err-make_room-clause-grows
returns-in_err-make_room-clause-grows c =
    let had : length c.self.inside.slots.items ≡ c.args.self.now.room = ap (λ (t : TableSpace). t.room) c.self.view_is in
    omega (arith, had, c.in_err-make_room.ensures.grows)

on_err : {T E : Type 0} (r : Result T E) (X : Type 0) → X → OnErr r X
on_err (Ok value) X holds = tt
on_err (Err error) X holds = holds

pub returns-in_err-make_room-clause-stays : goal.returns-in_err-make_room-clause-stays
returns-in_err-make_room-clause-stays c =
    on_err c.from_residual-in_err-make_room.result _ (c.in_err-make_room.ensures.stays ∙ ap (λ (t : TableSpace). t.slots) c.self.view_is)
