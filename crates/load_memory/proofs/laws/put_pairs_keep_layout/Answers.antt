use Rattle.load_memory.proofs.KeptLayout.{laid_out_alike, laid_out_pair}
use Rattle.load_memory.proofs.laws.put_pairs_keep_layout.Goals as goal

pub returns-clause-alike : goal.returns-clause-alike
returns-clause-alike c = laid_out_alike

pub returns-clause-pair : goal.returns-clause-pair
returns-clause-pair c = laid_out_pair
