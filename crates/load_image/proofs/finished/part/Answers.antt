use Rattle.std.proofs.Common.{arith}
use Rattle.load_image.proofs.ImageParts.{part_byte}
use Rattle.load_image.proofs.finished.part.Goals as goal

pub returns-clause-bytes : goal.returns-clause-bytes
returns-clause-bytes c = λ i lt.
    rw c.from_vec.ensures
    (part_byte _ _ _ _ i _ _ (c.write_over.ensures.bytes i (omega (arith, c.in_ok-bytes.ensures.len))) (c.in_ok-bytes.ensures.bytes i) (c.requires.own i lt))
