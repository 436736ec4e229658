use Rattle.load_process.proofs.WalkFacts.{facts_of}
use Rattle.load_process.proofs.Validity.{valid_after}
use Rattle.load_process.proofs.laws.loads_keep_valid.Goals as goal

pub returns : goal.returns
returns c = λ p files root joining names asked valid walk. valid_after p joining names (facts_of p files root joining names walk) valid asked
