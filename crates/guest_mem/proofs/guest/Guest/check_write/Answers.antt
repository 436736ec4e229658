use Rattle.std.proofs.Common.{refl}
use Rattle.guest_mem.specs.declared.search.Asked.TheVariants.{Mapped}
use Rattle.guest_mem.specs.declared.tags.WordTag.TheVariants.{Plain}
use Rattle.guest_mem.proofs.Tagged.{known_write, known_inside}
use Rattle.guest_mem.proofs.guest.Guest.check_write.Goals as goal

pub returns-in-Plain-clause-refusal : goal.returns-in-Plain-clause-refusal
returns-in-Plain-clause-refusal c = known_write c.args.width c.args.count c.args.self.now c.args.addr (rw c.in-Plain.is at c.known.ensures)

pub returns-in-Plain-clause-inside : goal.returns-in-Plain-clause-inside
returns-in-Plain-clause-inside c = known_inside Plain Mapped c.args.width c.args.count c.args.self.now c.args.addr c.whole.ensures.whole c.requires.some refl (rw c.in-Plain.is at c.known.ensures)
