use Rattle.std.proofs.Common.{ap, arith}
use Rattle.link_places.specs.declared.got.Next.{Next}
use Rattle.link_places.specs.parts.NeedTable.{needs_of}
use Rattle.link_places.proofs.Slots.{slots-counted}
use Rattle.link_places.proofs.needs.NeedTable.slot_count.Goals as goal

pub overflow_sub-result : goal.overflow_sub-result
overflow_sub-result c =
    let t = c.args.self.now in
    let first = ap (λ (n : Next). n.slot) t.first in
    omega (arith, t.size, first)

pub returns : goal.returns
returns c =
    let t = c.args.self.now in
    let first = ap (λ (n : Next). n.slot) t.first in
    let count = slots-counted (needs_of t) in
    omega (arith, t.size, first, count)
