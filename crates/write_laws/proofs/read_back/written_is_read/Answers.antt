use Rattle.write_laws.proofs.Law as lemma
use Rattle.write_laws.proofs.read_back.written_is_read.Goals as goal

pub returns : goal.returns
returns c = lemma.written_is_read
