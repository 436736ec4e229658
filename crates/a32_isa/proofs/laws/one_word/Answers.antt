use Rattle.a32_isa.proofs.RoundTrips as law
use Rattle.a32_isa.proofs.laws.one_word.Goals as goal

pub returns-clause-word : goal.returns-clause-word
returns-clause-word c = law.IsInstr-word_of

pub returns-clause-only : goal.returns-clause-only
returns-clause-only c = law.one_word
