use Rattle.a32_text.proofs.AllLaws.{read_back}
use Rattle.a32_text.proofs.laws.printed_is_read.Goals as goal

pub returns : goal.returns
returns c = read_back
