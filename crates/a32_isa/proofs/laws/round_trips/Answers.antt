use Rattle.a32_isa.proofs.RoundTrips as law
use Rattle.a32_isa.proofs.Sound as sound
use Rattle.a32_isa.proofs.laws.round_trips.Goals as goal

pub returns-clause-instruction : goal.returns-clause-instruction
returns-clause-instruction c = law.decode_of-word_of

pub returns-clause-word : goal.returns-clause-word
returns-clause-word c = law.word_of-decode_of

pub returns-clause-row : goal.returns-clause-row
returns-clause-row c = sound.decode_of-row
