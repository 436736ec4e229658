use Rattle.std.proofs.Common.{◌≡◌, ap, ◌∙◌, ◌<◌, arith, length, length-set, set, Some}
use Rattle.symbol_scope.specs.parts.Slots.{TableSpace, filled_up}
use Rattle.symbol_scope.proofs.Filling.{filled_up-set}
use Rattle.symbol_scope.proofs.tables.Tables.put.Goals as goal

pub put_slot-requires : goal.put_slot-requires
put_slot-requires c =
    let had : length c.self.inside.slots.items ≡ c.args.self.now.room = ap (λ (t : TableSpace). t.room) c.self.view_is in
    omega (arith, had, c.requires)

pub returns-clause-put : goal.returns-clause-put
returns-clause-put c =
    let had : length c.self.inside.slots.items ≡ c.args.self.now.room = ap (λ (t : TableSpace). t.room) c.self.view_is in
    let lt : c.args.number < length c.self.inside.slots.items = omega (arith, had, c.requires) in
    ap filled_up c.put_slot.ensures ∙ filled_up-set c.self.inside.slots.items c.args.number (Some c.args.table) lt
    ∙ ap (λ (t : TableSpace). set t.slots c.args.number (Some c.args.table)) c.self.view_is

pub returns-clause-room : goal.returns-clause-room
returns-clause-room c =
    ap length c.put_slot.ensures ∙ length-set c.self.inside.slots.items c.args.number (Some c.args.table) ∙ ap (λ (t : TableSpace). t.room) c.self.view_is
