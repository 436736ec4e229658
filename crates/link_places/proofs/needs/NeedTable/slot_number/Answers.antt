use Rattle.std.proofs.Common.{ap, arith}
use Rattle.link_places.specs.declared.got.Next.{Next}
use Rattle.link_places.specs.parts.NeedTable.{needs_of}
use Rattle.link_places.proofs.Slots.{slot-number}
use Rattle.link_places.proofs.needs.NeedTable.slot_number.Goals as goal

pub overflow_sub-result : goal.overflow_sub-result
overflow_sub-result c =
    let t = c.args.self.now in
    let first = ap (λ (n : Next). n.slot) t.first in
    omega (arith, c.offset.ensures, first)

pub returns : goal.returns
returns c =
    let t = c.args.self.now in
    let first = ap (λ (n : Next). n.slot) t.first in
    omega (arith, c.offset.ensures, first, slot-number c.args.key (needs_of t))
