use Rattle.std.proofs.Common.{ap, sym, ◌∙◌, ◌<◌, ◌≤◌, arith, length, length-set, set, None}
use Rattle.std.proofs.lemmas.List.{get_or_past}
use Rattle.symbol_scope.specs.parts.Needs.{table_at}
use Rattle.symbol_scope.specs.parts.Slots.{TableSpace, filled_up}
use Rattle.symbol_scope.proofs.Filling.{filled_up-set, filled_up-past, table_read}
use Rattle.symbol_scope.proofs.tables.Tables.take.Goals as goal

pub returns-then-number-len-clause-table : goal.returns-then-number-len-clause-table
returns-then-number-len-clause-table c =
    c.take_slot.ensures.value ∙ table_read c.self.inside.slots.items c.args.number ∙ ap (λ (t : TableSpace). table_at t.slots c.args.number) c.self.view_is

pub returns-then-number-len-clause-left : goal.returns-then-number-len-clause-left
returns-then-number-len-clause-left c =
    let lt : c.args.number < length c.self.inside.slots.items = omega (arith, c.len.ensures, c.self.inside.slots.ok.0) in
    ap filled_up c.take_slot.ensures.after ∙ filled_up-set c.self.inside.slots.items c.args.number None lt ∙ ap (λ (t : TableSpace). set t.slots c.args.number None) c.self.view_is

pub returns-then-number-len-clause-room : goal.returns-then-number-len-clause-room
returns-then-number-len-clause-room c =
    ap length c.take_slot.ensures.after ∙ length-set c.self.inside.slots.items c.args.number None ∙ ap (λ (t : TableSpace). t.room) c.self.view_is

pub returns-else-number-len-clause-table : goal.returns-else-number-len-clause-table
returns-else-number-len-clause-table c =
    let le : length c.self.inside.slots.items ≤ c.args.number = omega (arith, c.len.ensures, c.self.inside.slots.ok.0) in
    sym (get_or_past c.self.inside.slots.items c.args.number None le) ∙ table_read c.self.inside.slots.items c.args.number
    ∙ ap (λ (t : TableSpace). table_at t.slots c.args.number) c.self.view_is

pub returns-else-number-len-clause-left : goal.returns-else-number-len-clause-left
returns-else-number-len-clause-left c =
    let le : length c.self.inside.slots.items ≤ c.args.number = omega (arith, c.len.ensures, c.self.inside.slots.ok.0) in
    ap (λ (t : TableSpace). t.slots) (sym c.self.view_is) ∙ filled_up-past c.self.inside.slots.items c.args.number le
    ∙ ap (λ (t : TableSpace). set t.slots c.args.number None) c.self.view_is
