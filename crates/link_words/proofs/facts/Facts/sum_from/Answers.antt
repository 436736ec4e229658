use Rattle.std.proofs.Common.{refl}
use Rattle.std.specs.Int.{w64}
use Rattle.std.proofs.lemmas.Int.{to_z-of_z}
use mir.Val.{SFits}
use Rattle.link_words.proofs.facts.Facts.sum_from.Goals as goal

pub returns : goal.returns
returns c mode inputs x h =
    let fits : SFits w64 c.sum.result = record { sfits = c.sum.type_inv } in
    let whole : SFits w64 c.above.result = record { sfits = c.above.type_inv } in
    rw (to_z-of_z w64 c.above.result whole, c.above.ensures, to_z-of_z w64 c.sum.result fits, c.sum.ensures.value mode inputs x h) refl
