use Rattle.load_process.proofs.WalkFacts.{facts_of}
use Rattle.load_process.proofs.Validity.{first_scope}
use Rattle.load_process.proofs.laws.empty_scope.Goals as goal

pub returns : goal.returns
returns c = λ p files root joining names asked valid walk empty. first_scope p joining names (facts_of p files root joining names walk) valid empty
