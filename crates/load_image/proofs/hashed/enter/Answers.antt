use Rattle.std.proofs.Common.{sym, ◌∙◌}
use Rattle.load_image.proofs.HashedEntries.{entered}
use Rattle.load_image.proofs.hashed.enter.Goals as goal

pub returns-in-Ok : goal.returns-in-Ok
returns-in-Ok c = entered c.args.table.now c.insert.new.self c.args.f.now _ _ c.addr_of.ensures (sym c.is_some.ensures ∙ c.if-is_some.false) c.in-Ok.ensures.updates.0
