use Rattle.write_laws.proofs.ObjectLaw as lemma
use Rattle.write_laws.proofs.read_back.written_object_is_read.Goals as goal

pub returns : goal.returns
returns c = lemma.written_object_is_read
