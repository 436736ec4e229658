use Rattle.load_memory.proofs.KeptLayout as lemma
use Rattle.load_memory.proofs.laws.layouts_agree.Goals as goal

pub returns : goal.returns
returns c = lemma.layouts_agree
