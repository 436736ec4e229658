use Rattle.a32_isa.proofs.RoundTrips as law
use Rattle.a32_isa.proofs.laws.one_instruction.Goals as goal

pub returns : goal.returns
returns c = law.one_instruction
