use Rattle.load_sites.proofs.SlotsLead.{code_follows}
use Rattle.load_sites.proofs.laws.slots_lead_to_code.Goals as goal

pub returns : goal.returns
returns c = code_follows
