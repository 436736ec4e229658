use Rattle.std.proofs.Common.{◌∙◌, sym}
use Rattle.mod_load.proofs.EnteredAddresses.{entered_one, none_of}
use Rattle.mod_load.proofs.descriptors.adopt.Goals as goal

pub returns-then-is_none-clause-entered : goal.returns-then-is_none-clause-entered
returns-then-is_none-clause-entered c =
    entered_one c.args.pool.now c.adopt.new.self c.args.f.now c.args.addr c.adopt.new.self.room (sym c.get.ensures.value ∙ none_of c.get.result c.is_none.result c.is_none.ensures c.if-is_none.true)
    c.adopt.ensures.adopted
