use Rattle.std.proofs.Common.{arith}
use Rattle.load_model.proofs.PlanParts.{low_above, own_slots_below}
use Rattle.load_model.proofs.plan.MemPlan.descriptors_at.Goals as goal

pub returns-clause-slots : goal.returns-clause-slots
returns-clause-slots c = omega (arith, own_slots_below c.args.self.now c.requires, low_above c.args.self.now)
