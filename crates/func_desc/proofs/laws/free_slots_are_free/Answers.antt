use Rattle.func_desc.proofs.Contained.{free_slots_free}
use Rattle.func_desc.proofs.laws.free_slots_are_free.Goals as goal

pub returns : goal.returns
returns c = free_slots_free
