use Rattle.guest_mem.proofs.Reading.{read_of-agrees, read_words_of-agrees, fetch_of-agrees}
use Rattle.guest_mem.proofs.laws.reads_agree.Goals as goal

pub returns-clause-number : goal.returns-clause-number
returns-clause-number c = read_of-agrees

pub returns-clause-words : goal.returns-clause-words
returns-clause-words c = read_words_of-agrees

pub returns-clause-fetched : goal.returns-clause-fetched
returns-clause-fetched c = fetch_of-agrees
