use Rattle.load_process.proofs.WalkFacts.{facts_of, free_numbers_law}
use Rattle.load_process.proofs.laws.numbers_are_free.Goals as goal

pub returns : goal.returns
returns c = λ p files root joining names walk. free_numbers_law p joining names (facts_of p files root joining names walk)
