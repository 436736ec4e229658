use Rattle.std.proofs.Common.{arith}
use Rattle.a32_text.proofs.Listing.{more_bits}
use Rattle.a32_text.proofs.list.listed_to.Goals as goal

pub overflow_add-result : goal.overflow_add-result
overflow_add-result c =
    let m = more_bits c.args.list c.args.low c.args.first c.args.r c.requires.list c.requires.rising c.requires.order c.requires.below in
    rw c.bits_from.ensures.bits (let s = m.1 in omega (arith, m.0))

pub returns-clause-below : goal.returns-clause-below
returns-clause-below c =
    let m = more_bits c.args.list c.args.low c.args.first c.args.r c.requires.list c.requires.rising c.requires.order c.requires.below in
    rw c.bits_from.ensures.bits m.0

pub returns-clause-short : goal.returns-clause-short
returns-clause-short c =
    let m = more_bits c.args.list c.args.low c.args.first c.args.r c.requires.list c.requires.rising c.requires.order c.requires.below in
    rw c.bits_from.ensures.bits (omega (arith, m.0, m.1))
