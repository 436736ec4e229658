use Rattle.std.proofs.Common.{◌-◌, ◌<◌, List, length, take, drop, sym, ap, ◌∙◌, arith}
use Rattle.load_model.specs.declared.module.Joining.{Joining}
use Rattle.load_model.specs.Linkage.{joining_at}
use Rattle.known_objects.proofs.SiteObjects.{wants, no_tables, one_table, nothing, front}
use Rattle.known_objects.proofs.sites.+tables_of.Goals as goal

pub returns-in_default-clause-tables : goal.returns-in_default-clause-tables
returns-in_default-clause-tables g t c = λ m.
    rw c.new.ensures (no_tables 64 m) ∙ ap (λ (joining : List Joining). wants (joining_at joining m)) (sym (nothing c.args.joining.now c.in_default.len_below))

pub returns-clause-tables : goal.returns-clause-tables
returns-clause-tables g t c = λ m.
    let joining = c.args.joining.now in
    let room : c.new-item.result.number < length c.in_ok-tables.tables.slots = omega (arith, c.in_ok-tables.ensures.size) in
    let more = one_table c.in_ok-tables.tables.slots (take (length joining - 1) (drop 1 joining)) c.new-item.result room c.in_ok-tables.ensures.tables m in
    rw c.in_ok-add.ensures.added more ∙ ap (λ (js : List Joining). wants (joining_at js m)) (front joining c.new-item.result c.in-len1-up.len_at_least c.new-item.is)
