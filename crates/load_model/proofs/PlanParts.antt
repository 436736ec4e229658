-- How the parts of a memory lie to each other.
use Rattle.std.proofs.Common.{◌+◌, ◌*◌, ◌≤◌, arith}
use Rattle.std.proofs.Math.Nat.{mul-le-mul_left}
use Rattle.load_model.specs.declared.plan.MemPlan.{MemPlan}
use Rattle.load_model.specs.declared.plan.TheConstants.{DESCRIPTOR_SIZE}
use Rattle.load_model.specs.Plan.{Fits, descriptors_at, slots_end, low_of, high_of}

-- the least address of modules lies behind the slots
pub low_above : (plan : MemPlan) → slots_end plan ≤ low_of plan
low_above plan = omega arith

-- the slots end where modules may end, or before
pub slots_below : (plan : MemPlan) → Fits plan → slots_end plan ≤ high_of plan
slots_below plan fits = let h : low_of plan ≤ high_of plan = fits.modules in omega arith

-- the slots of the first process end where those of all do, or before
pub own_slots_below : (plan : MemPlan) → Fits plan → descriptors_at plan + DESCRIPTOR_SIZE * plan.descriptors ≤ slots_end plan
own_slots_below plan fits =
    let some : 1 ≤ plan.processes = fits.some_processes in
    let more : plan.descriptors * 1 ≤ plan.descriptors * plan.processes = mul-le-mul_left plan.descriptors some in
    omega arith
