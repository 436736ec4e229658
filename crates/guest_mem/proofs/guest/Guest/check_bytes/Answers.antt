use Rattle.std.proofs.Common.{◌+◌, ◌≤◌, length, ap, arith}
use Rattle.guest_mem.specs.Memory.{GuestMemory}
use Rattle.guest_mem.proofs.Inside.{asked_inside}
use Rattle.guest_mem.proofs.guest.Guest.check_bytes.Goals as goal

pub returns-in-None-clause-inside : goal.returns-in-None-clause-inside
returns-in-None-clause-inside c =
    let within : c.args.addr + c.args.count ≤ length c.deref.result.now = asked_inside c.args.asked c.deref.result.now c.args.addr c.args.count (cc) c.requires.some in
    omega (arith, ap length c.deref.ensures.value, ap (λ (m : GuestMemory). length m.bytes) c.self.view_is)
