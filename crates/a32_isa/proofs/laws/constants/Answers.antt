use Rattle.a32_isa.proofs.Immediates as law
use Rattle.a32_isa.proofs.laws.constants.Goals as goal

pub returns-clause-gives : goal.returns-clause-gives
returns-clause-gives c = law.gives-exactly

pub returns-clause-back : goal.returns-clause-back
returns-clause-back c = law.constant_of-back

pub returns-clause-fits : goal.returns-clause-fits
returns-clause-fits c = law.constant_fits
