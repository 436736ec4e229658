use Rattle.link_means.proofs.Output.{linked_is_output}
use Rattle.link_means.proofs.laws.linked_is_output.Goals as goal

pub returns : goal.returns
returns c = linked_is_output
