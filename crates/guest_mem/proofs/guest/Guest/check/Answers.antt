use Rattle.std.proofs.Common.{◌≡◌, true}
use Rattle.guest_mem.specs.parts.Tags.{is_enough}
use Rattle.guest_mem.proofs.Tagged.{known_read, known_inside}
use Rattle.guest_mem.proofs.guest.Guest.check.Goals as goal

pub returns-then-is_enough-clause-refusal : goal.returns-then-is_enough-clause-refusal
returns-then-is_enough-clause-refusal c = known_read c.known.result c.args.asked c.args.width c.args.count c.args.self.now c.args.addr (cc) c.known.ensures

pub returns-then-is_enough-clause-inside : goal.returns-then-is_enough-clause-inside
returns-then-is_enough-clause-inside c =
    let enough : is_enough c.known.result c.args.asked ≡ true = cc in
    known_inside c.known.result c.args.asked c.args.width c.args.count c.args.self.now c.args.addr c.whole.ensures.whole c.requires.some enough c.known.ensures
