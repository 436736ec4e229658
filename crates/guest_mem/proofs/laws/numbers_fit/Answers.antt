use Rattle.guest_mem.proofs.Reading.{read_of-fits, fetch_of-fits}
use Rattle.guest_mem.proofs.Writing.{write_of-fits}
use Rattle.guest_mem.proofs.laws.numbers_fit.Goals as goal

pub returns-clause-read : goal.returns-clause-read
returns-clause-read c = read_of-fits

pub returns-clause-fetched : goal.returns-clause-fetched
returns-clause-fetched c = fetch_of-fits

pub returns-clause-written : goal.returns-clause-written
returns-clause-written c = write_of-fits
