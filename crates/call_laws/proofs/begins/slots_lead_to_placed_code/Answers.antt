use Rattle.call_laws.proofs.SlotCode.{slots_lead_to_placed_code_lem}
use Rattle.call_laws.proofs.begins.slots_lead_to_placed_code.Goals as goal

pub returns : goal.returns
returns c = slots_lead_to_placed_code_lem
