use Rattle.run_turn.proofs.MappedBytes.{read_below}
use Rattle.run_turn.proofs.bytes.is_mapped.Goals as goal

pub returns-clause-inside : goal.returns-clause-inside
returns-clause-inside c = λ t. read_below c.args.guest.now c.args.at c.whole.ensures.whole (rw (c.is_ok.ensures.value, c.read8.ensures) at t)
