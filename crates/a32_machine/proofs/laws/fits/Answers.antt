use Rattle.a32_machine.proofs.Fitting.{step_of-aligned, step_of-fits}
use Rattle.a32_machine.proofs.laws.fits.Goals as goal

pub returns-clause-fit : goal.returns-clause-fit
returns-clause-fit c = step_of-fits

pub returns-clause-aligned : goal.returns-clause-aligned
returns-clause-aligned c = step_of-aligned
